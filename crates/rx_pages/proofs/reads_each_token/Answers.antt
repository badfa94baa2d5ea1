use Rattle.rx_pages.proofs.Spellings.{reads_each}
use Rattle.rx_pages.proofs.reads_each_token.Goals as goal

pub returns : goal.returns
returns c = reads_each
