use Rattle.rx_tags.proofs.Pieces.{fresh}
use Rattle.rx_tags.proofs.attributes.Attributes.clear.Goals as goal

pub returns : goal.returns
returns c = rw (c.clear.ensures.items, c.clear-2.ensures.items) fresh.1
