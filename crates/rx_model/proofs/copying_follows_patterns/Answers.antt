use Rattle.rx_model.proofs.Common.{nat_eq, exact_numbers, copies_patterns}
use Rattle.rx_model.proofs.copying_follows_patterns.Goals as goal

pub returns : goal.returns
returns c = copies_patterns nat_eq exact_numbers
