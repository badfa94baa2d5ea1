use Rattle.rx_pages.proofs.BytesOn.{page_or_fault}
use Rattle.rx_pages.proofs.page_or_fault.Goals as goal

pub returns : goal.returns
returns c = page_or_fault
