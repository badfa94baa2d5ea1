use Rattle.rx_pages.proofs.FaultsRead.{fault_is_read}
use Rattle.rx_pages.proofs.finds_each_fault.Goals as goal

pub returns : goal.returns
returns c = fault_is_read
