use Rattle.rx_scan.proofs.BackLemmas.{scans_what_is_spelled as law}
use Rattle.rx_scan.proofs.scans_what_is_spelled.Goals as goal

pub returns : goal.returns
returns c = law
