use Rattle.rx_chars.proofs.DecodingLemmas.{held_is_no_text}
use Rattle.rx_chars.proofs.held_is_no_text.Goals as goal

pub returns : goal.returns
returns c = held_is_no_text
