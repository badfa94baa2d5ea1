use Rattle.rx_model.proofs.Common.{nat_eq, exact_numbers}
use Rattle.rx_quads.proofs.CountLemmas.{numbers_without_gaps}
use Rattle.rx_quads.proofs.numbers_have_no_gaps.Goals as goal

pub returns : goal.returns
returns c = numbers_without_gaps nat_eq exact_numbers
