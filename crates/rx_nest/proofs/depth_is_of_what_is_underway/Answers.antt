use Rattle.rx_nest.proofs.OpenElements.{has_open_underway}
use Rattle.rx_nest.proofs.depth_is_of_what_is_underway.Goals as goal

pub returns : goal.returns
returns c = has_open_underway
