use Rattle.rx_rdfa.proofs.Calls.{calls_read as law}
use Rattle.rx_rdfa.proofs.calls_read_the_tree.Goals as goal

pub returns : goal.returns
returns c = law
