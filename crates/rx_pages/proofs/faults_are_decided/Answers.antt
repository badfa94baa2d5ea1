use Rattle.rx_pages.proofs.Judged.{faults_are_decided}
use Rattle.rx_pages.proofs.faults_are_decided.Goals as goal

pub returns : goal.returns
returns c = faults_are_decided
