use Rattle.rx_model.proofs.Common.{nat_eq, exact_numbers}
use Rattle.rx_model.proofs.Names.{names_do_not_matter}
use Rattle.rx_model.proofs.names_do_not_matter.Goals as goal

pub returns : goal.returns
returns c = names_do_not_matter nat_eq exact_numbers
