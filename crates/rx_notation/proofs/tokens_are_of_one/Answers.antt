use Rattle.rx_notation.proofs.OneDocument.{one_document}
use Rattle.rx_notation.proofs.tokens_are_of_one.Goals as goal

pub returns : goal.returns
returns c = one_document
