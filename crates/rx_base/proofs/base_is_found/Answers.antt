use Rattle.rx_base.proofs.Found.{base_found}
use Rattle.rx_base.proofs.base_is_found.Goals as goal

pub returns : goal.returns
returns c = base_found
