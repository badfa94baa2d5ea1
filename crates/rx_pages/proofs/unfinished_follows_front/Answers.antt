use Rattle.rx_pages.proofs.Underway.{unfinished_follows_front as law}
use Rattle.rx_pages.proofs.unfinished_follows_front.Goals as goal

pub returns : goal.returns
returns c = law
