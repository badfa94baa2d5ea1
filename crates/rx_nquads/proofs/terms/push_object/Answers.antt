use Rattle.rx_nquads.proofs.Adding.{iri_object}
use Rattle.rx_nquads.proofs.terms.push_object.Goals as goal

pub returns-in-Iri-clause-adds : goal.returns-in-Iri-clause-adds
returns-in-Iri-clause-adds g c = rw c.in-Iri.is (iri_object _ c.push_between.ensures.adds)
