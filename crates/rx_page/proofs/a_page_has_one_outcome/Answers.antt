use Rattle.rx_page.proofs.OutcomeLemmas.{one_outcome}
use Rattle.rx_page.proofs.a_page_has_one_outcome.Goals as goal

pub returns : goal.returns
returns c = one_outcome
