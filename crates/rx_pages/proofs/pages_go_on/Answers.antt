use Rattle.rx_pages.proofs.Going.{pages_go_on}
use Rattle.rx_pages.proofs.pages_go_on.Goals as goal

pub returns : goal.returns
returns c = pages_go_on
