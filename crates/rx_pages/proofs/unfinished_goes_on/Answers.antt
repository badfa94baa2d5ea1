use Rattle.rx_pages.proofs.Judged.{unfinished_goes_on}
use Rattle.rx_pages.proofs.unfinished_goes_on.Goals as goal

pub returns : goal.returns
returns c = unfinished_goes_on
