use Rattle.std.proofs.Common.{codes, refl}
use Rattle.rx_pieces.proofs.Adding.{adds_then, adds_by, behind_words}
use Rattle.rx_nquads.proofs.Adding.{literal_object}
use Rattle.rx_nquads.proofs.terms.push_literal.Goals as goal

pub returns-clause-adds : goal.returns-clause-adds
returns-clause-adds g c = adds_by (literal_object _ _) (adds_then (behind_words (codes "> \"") _ refl c.push_text.ensures.adds) c.push_kind.ensures.adds)
