use Rattle.rx_chars.proofs.CharactersLemmas.{enters_normal}
use Rattle.rx_chars.proofs.enters_normal.Goals as goal

pub returns : goal.returns
returns c = enters_normal
