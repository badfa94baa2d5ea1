use Rattle.rx_notation.proofs.OneMeaning.{nested_denotes_one}
use Rattle.rx_notation.proofs.a_nested_text_denotes_one.Goals as goal

pub returns : goal.returns
returns c = nested_denotes_one
