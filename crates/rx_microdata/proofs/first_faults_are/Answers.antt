use Rattle.rx_microdata.proofs.first_faults_are.Goals as goal
use Rattle.rx_microdata.proofs.FirstFaults.{faults as law}

pub returns : goal.returns
returns c = law
