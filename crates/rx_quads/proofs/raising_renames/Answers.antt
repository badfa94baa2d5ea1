use Rattle.rx_quads.proofs.RaisedLemmas.{raises_one_to_one}
use Rattle.rx_quads.proofs.raising_renames.Goals as goal

pub returns : goal.returns
returns c = raises_one_to_one
