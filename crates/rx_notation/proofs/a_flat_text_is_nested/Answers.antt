use Rattle.rx_notation.proofs.Naming.{flat_is_nested}
use Rattle.rx_notation.proofs.a_flat_text_is_nested.Goals as goal

pub returns : goal.returns
returns c = flat_is_nested
