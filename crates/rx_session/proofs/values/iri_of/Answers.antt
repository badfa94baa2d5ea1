use Rattle.rx_session.proofs.WorkLemmas.{no_iri, an_iri}
use Rattle.rx_session.proofs.values.iri_of.Goals as goal

pub returns-in_default : goal.returns-in_default
returns-in_default c = no_iri c.args.bytes.now c.in_default.ensures.cases.0

pub returns-in-Ok-of : goal.returns-in-Ok-of
returns-in-Ok-of c = an_iri c.args.bytes.now _ _ c.in-Ok.ensures.cases.0 c.in-Ok.ensures.cases.1 c.in-Ok-of.ensures.ok.0 c.in-Ok-of.ensures.ok.1
