use Rattle.rx_model.proofs.Seen as seen
use Rattle.rx_model.proofs.seen_one_to_one.Goals as goal

pub returns : goal.returns
returns c = seen.seen_one_to_one
