use Rattle.rx_rdfa.proofs.RenamedMachine.{made_renames as law}
use Rattle.rx_rdfa.proofs.made_renames.Goals as goal

pub returns : goal.returns
returns c = law
