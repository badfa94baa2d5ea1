use Rattle.rx_notation.proofs.NestedMeaning.{nested_denotes}
use Rattle.rx_notation.proofs.a_nested_layout_denotes_its_triples.Goals as goal

pub returns : goal.returns
returns c = nested_denotes
