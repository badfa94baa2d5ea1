use Rattle.std.proofs.Common.{codes, refl}
use Rattle.rx_pieces.proofs.Adding.{adds_then, literal}
use Rattle.rx_nquads.proofs.terms.push_blank.Goals as goal

pub returns-clause-adds : goal.returns-clause-adds
returns-clause-adds g c = adds_then (literal (codes "> ") refl c.push.ensures) c.push_label.ensures.adds
