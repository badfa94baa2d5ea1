use Rattle.rx_microdata.proofs.visits_are.Goals as goal
use Rattle.rx_microdata.proofs.VisitsAre.{are as law}

pub returns : goal.returns
returns c = law
