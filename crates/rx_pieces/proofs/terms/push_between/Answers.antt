use Rattle.rx_pieces.proofs.Adding.{adds_then}
use Rattle.rx_pieces.proofs.terms.push_between.Goals as goal

pub returns-clause-adds : goal.returns-clause-adds
returns-clause-adds g c = adds_then c.push.ensures (adds_then c.push_iri.ensures.adds c.push-2.ensures)
