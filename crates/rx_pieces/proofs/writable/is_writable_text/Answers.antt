use Rattle.rx_pieces.proofs.Adding.{text_of}
use Rattle.rx_pieces.proofs.writable.is_writable_text.Goals as goal

pub returns : goal.returns
returns c = text_of _ _ c.as_str-characters.utf8 c.as_str-characters.ensures.characters
