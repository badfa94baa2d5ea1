use Rattle.rx_walk.proofs.TextKeeping.{keeps_one_text}
use Rattle.rx_walk.proofs.walks_keep_one_text.Goals as goal

pub returns : goal.returns
returns c = keeps_one_text
