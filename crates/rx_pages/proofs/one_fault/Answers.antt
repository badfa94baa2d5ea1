use Rattle.rx_pages.proofs.OneOf.{one_fault}
use Rattle.rx_pages.proofs.one_fault.Goals as goal

pub returns : goal.returns
returns c = one_fault
