use Rattle.rx_pieces.proofs.Adding.{utf8_bytes}
use Rattle.rx_pieces.proofs.terms.push.Goals as goal

pub returns : goal.returns
returns g c = utf8_bytes _ c.utf8.text (rw c.as_bytes.ensures.value at c.add.ensures)
