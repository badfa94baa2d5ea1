use Rattle.rx_pages.proofs.OnePlace.{one_place}
use Rattle.rx_pages.proofs.one_place.Goals as goal

pub returns : goal.returns
returns c = one_place
