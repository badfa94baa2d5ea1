use Rattle.std.proofs.Common.{codes, refl}
use Rattle.rx_pieces.proofs.Adding.{literal}
use Rattle.rx_nquads.proofs.terms.push_kind.Goals as goal

pub returns-in-Plain-clause-adds : goal.returns-in-Plain-clause-adds
returns-in-Plain-clause-adds g c = rw c.in-Plain.is (literal (codes "\" ") refl c.push.ensures)
