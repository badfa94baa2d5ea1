use Rattle.rx_pages.proofs.Closings.{fronts_close}
use Rattle.rx_pages.proofs.fronts_close.Goals as goal

pub returns : goal.returns
returns c = fronts_close
