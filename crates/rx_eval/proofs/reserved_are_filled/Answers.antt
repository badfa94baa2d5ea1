use Rattle.rx_eval.proofs.PlaceLemmas.{reserved_are_filled as reserved_are_filled_lem}
use Rattle.rx_eval.proofs.reserved_are_filled.Goals as goal

pub returns : goal.returns
returns c = reserved_are_filled_lem
