use Rattle.rx_tags.proofs.Pieces.{fresh}
use Rattle.rx_tags.proofs.attributes.Attributes.new.Goals as goal

pub returns : goal.returns
returns c = rw (c.new.ensures.items, c.new-2.ensures.items) fresh.1
