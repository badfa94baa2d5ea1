use Rattle.rx_nquads.proofs.OneMeaning.{states_one}
use Rattle.rx_nquads.proofs.a_line_states_one.Goals as goal

pub returns : goal.returns
returns c = states_one
