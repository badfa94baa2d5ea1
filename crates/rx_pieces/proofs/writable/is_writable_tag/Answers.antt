use Rattle.rx_pieces.proofs.Adding.{tag_of}
use Rattle.rx_pieces.proofs.writable.is_writable_tag.Goals as goal

pub returns : goal.returns
returns c = tag_of _ _ c.as_str-characters.utf8 c.as_str-characters.ensures.characters c.as_str-characters.ensures.form
