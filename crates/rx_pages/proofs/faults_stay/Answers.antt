use Rattle.rx_pages.proofs.OnlyPages.{faults_stay}
use Rattle.rx_pages.proofs.faults_stay.Goals as goal

pub returns : goal.returns
returns c = faults_stay
