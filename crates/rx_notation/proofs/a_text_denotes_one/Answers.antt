use Rattle.rx_notation.proofs.OneMeaning.{denotes_one}
use Rattle.rx_notation.proofs.a_text_denotes_one.Goals as goal

pub returns : goal.returns
returns c = denotes_one
