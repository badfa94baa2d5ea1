use Rattle.rx_nest.proofs.TagPlaces.{shows_more}
use Rattle.rx_nest.proofs.tags_lie_in_their_bytes.Goals as goal

pub returns : goal.returns
returns c = shows_more
