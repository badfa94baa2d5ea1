use Rattle.rx_walk.proofs.Signed.{calls_tree}
use Rattle.rx_walk.proofs.calls_are_of_the_tree.Goals as goal

pub returns : goal.returns
returns c = calls_tree
