use Rattle.rx_rdfa.proofs.Local.{lists_are_local as law}
use Rattle.rx_rdfa.proofs.lists_are_local.Goals as goal

pub returns : goal.returns
returns c = law
