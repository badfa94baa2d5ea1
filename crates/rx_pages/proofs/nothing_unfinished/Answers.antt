use Rattle.rx_pages.proofs.Underway.{nothing_unfinished as law}
use Rattle.rx_pages.proofs.nothing_unfinished.Goals as goal

pub returns : goal.returns
returns c = law
