use Rattle.rx_pages.proofs.OnlyPages.{reads_only_pages}
use Rattle.rx_pages.proofs.reads_only_pages.Goals as goal

pub returns : goal.returns
returns c = reads_only_pages
