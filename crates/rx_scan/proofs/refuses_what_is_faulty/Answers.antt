use Rattle.rx_scan.proofs.BackLemmas.{refuses_what_is_faulty as law}
use Rattle.rx_scan.proofs.refuses_what_is_faulty.Goals as goal

pub returns : goal.returns
returns c = law
