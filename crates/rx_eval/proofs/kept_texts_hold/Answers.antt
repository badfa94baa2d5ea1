use Rattle.rx_eval.proofs.KeptLemmas.{rows}
use Rattle.rx_eval.proofs.kept_texts_hold.Goals as goal

pub returns : goal.returns
returns c = rows
