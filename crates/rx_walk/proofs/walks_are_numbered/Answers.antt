use Rattle.rx_walk.proofs.NumberedPages.{is_numbered}
use Rattle.rx_walk.proofs.walks_are_numbered.Goals as goal

pub returns : goal.returns
returns c = is_numbered
