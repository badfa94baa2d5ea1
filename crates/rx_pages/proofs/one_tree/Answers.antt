use Rattle.rx_pages.proofs.Trees.{one_tree}
use Rattle.rx_pages.proofs.one_tree.Goals as goal

pub returns : goal.returns
returns c = one_tree
