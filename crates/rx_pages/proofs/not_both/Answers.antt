use Rattle.rx_pages.proofs.OneOf.{not_both}
use Rattle.rx_pages.proofs.not_both.Goals as goal

pub returns : goal.returns
returns c = not_both
