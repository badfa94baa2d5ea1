use Rattle.rx_notation.proofs.OneText.{spells_one}
use Rattle.rx_notation.proofs.a_text_spells_one.Goals as goal

pub returns : goal.returns
returns c = spells_one
