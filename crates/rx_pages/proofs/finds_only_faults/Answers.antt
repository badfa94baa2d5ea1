use Rattle.rx_pages.proofs.OnlyPages.{finds_only_faults}
use Rattle.rx_pages.proofs.finds_only_faults.Goals as goal

pub returns : goal.returns
returns c = finds_only_faults
