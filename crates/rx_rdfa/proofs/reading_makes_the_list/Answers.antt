use Rattle.rx_rdfa.proofs.Machine.{reading_makes as law}
use Rattle.rx_rdfa.proofs.reading_makes_the_list.Goals as goal

pub returns : goal.returns
returns c = law
