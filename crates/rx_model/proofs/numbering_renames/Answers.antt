use Rattle.rx_model.proofs.Common.{nat_eq, exact_numbers, numbers_one_to_one}
use Rattle.rx_model.proofs.numbering_renames.Goals as goal

pub returns : goal.returns
returns c = numbers_one_to_one nat_eq exact_numbers
