use Rattle.rx_pages.proofs.PageRead.{page_is_read}
use Rattle.rx_pages.proofs.reads_each_page.Goals as goal

pub returns : goal.returns
returns c = page_is_read
