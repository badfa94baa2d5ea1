use Rattle.rx_nquads.proofs.Adding.{iri_datatype}
use Rattle.rx_nquads.proofs.terms.push_datatype.Goals as goal

pub returns-clause-adds : goal.returns-clause-adds
returns-clause-adds g c = iri_datatype _ c.push_between.ensures.adds
