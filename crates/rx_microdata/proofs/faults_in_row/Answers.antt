use Rattle.rx_microdata.proofs.faults_in_row.Goals as goal
use Rattle.rx_microdata.proofs.FirstFaults.{in_row as law}

pub returns : goal.returns
returns c = law
