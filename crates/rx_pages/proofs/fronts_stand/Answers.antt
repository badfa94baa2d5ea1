use Rattle.rx_pages.proofs.FrontBack.{fronts_stand}
use Rattle.rx_pages.proofs.fronts_stand.Goals as goal

pub returns : goal.returns
returns c = fronts_stand
