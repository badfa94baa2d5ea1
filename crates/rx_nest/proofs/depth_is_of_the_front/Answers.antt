use Rattle.rx_nest.proofs.OpenElements.{has_open_of_fronts}
use Rattle.rx_nest.proofs.depth_is_of_the_front.Goals as goal

pub returns : goal.returns
returns c = has_open_of_fronts
