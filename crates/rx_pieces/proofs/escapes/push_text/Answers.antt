use Rattle.std.proofs.Common.{ap}
use Rattle.rx_pieces.specs.Writing.{escaped_text}
use Rattle.rx_pieces.proofs.Adding.{adds_then, adds_by, text_of}
use Rattle.rx_pieces.proofs.escapes.push_text.Goals as goal

pub returns-clause-adds : goal.returns-clause-adds
returns-clause-adds g c = adds_then c.push.ensures (adds_by (ap escaped_text c.as_str.ensures.characters) c.push_escaped.ensures)

pub returns-clause-writable : goal.returns-clause-writable
returns-clause-writable g c = text_of _ _ c.as_str.utf8 c.as_str.ensures.characters
