use Rattle.rx_pieces.proofs.Adding.{adds_by, iri_of}
use Rattle.rx_pieces.proofs.terms.push_iri.Goals as goal

pub returns-clause-adds : goal.returns-clause-adds
returns-clause-adds g c = adds_by c.as_str.ensures.characters c.push.ensures

pub returns-clause-writable : goal.returns-clause-writable
returns-clause-writable g c = iri_of _ _ c.as_str.utf8 c.as_str.ensures.characters c.as_str.ensures.form
