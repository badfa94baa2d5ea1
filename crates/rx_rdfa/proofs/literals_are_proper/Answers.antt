use Rattle.rx_rdfa.proofs.Proper.{literals_are_proper as law}
use Rattle.rx_rdfa.proofs.literals_are_proper.Goals as goal

pub returns : goal.returns
returns c = law
