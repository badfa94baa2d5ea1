use Rattle.rx_nquads.proofs.Adding.{iri_name}
use Rattle.rx_nquads.proofs.writing.push_name.Goals as goal

pub returns-in-Some-clause-adds : goal.returns-in-Some-clause-adds
returns-in-Some-clause-adds g c = rw c.in-Some.is (iri_name _ c.push_between.ensures.adds)
