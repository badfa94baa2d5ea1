use Rattle.rx_refs.proofs.WholeLemmas.{parts-whole}
use Rattle.rx_refs.proofs.parts_are_whole.Goals as goal

pub returns : goal.returns
returns c = parts-whole
