use Rattle.rx_nquads.proofs.Adding.{iri_subject}
use Rattle.rx_nquads.proofs.terms.push_subject.Goals as goal

pub returns-in-Iri-clause-adds : goal.returns-in-Iri-clause-adds
returns-in-Iri-clause-adds g c = rw c.in-Iri.is (iri_subject _ c.push_between.ensures.adds)
