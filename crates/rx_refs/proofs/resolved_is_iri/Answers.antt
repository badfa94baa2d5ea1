use Rattle.rx_refs.proofs.WholeLemmas.{resolved-iri}
use Rattle.rx_refs.proofs.resolved_is_iri.Goals as goal

pub returns : goal.returns
returns c = resolved-iri
