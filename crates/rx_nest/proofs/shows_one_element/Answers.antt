use Rattle.rx_nest.proofs.Fronts.{shows_one}
use Rattle.rx_nest.proofs.shows_one_element.Goals as goal

pub returns : goal.returns
returns c = shows_one
