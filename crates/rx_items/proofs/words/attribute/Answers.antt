use Rattle.rx_tags.specs.Seen.{tag_seen}
use Rattle.rx_items.proofs.AttributeLemmas.{found}
use Rattle.rx_items.proofs.words.attribute.Goals as goal

pub returns : goal.returns
returns c = found (tag_seen c.args.tag.now).attributes c.args.name.now c.attr.result c.requires c.attr.ensures
