use Rattle.rx_notation.proofs.LayoutMeaning.{layout_denotes}
use Rattle.rx_notation.proofs.a_layout_denotes_its_triples.Goals as goal

pub returns : goal.returns
returns c = layout_denotes
