use Rattle.rx_pages.proofs.ClosedTold.{fronts_tell}
use Rattle.rx_pages.proofs.fronts_tell.Goals as goal

pub returns : goal.returns
returns c = fronts_tell
