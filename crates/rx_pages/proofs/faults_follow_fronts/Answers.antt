use Rattle.rx_pages.proofs.FaultFronts.{faults_follow_fronts}
use Rattle.rx_pages.proofs.faults_follow_fronts.Goals as goal

pub returns : goal.returns
returns c = faults_follow_fronts
