use Rattle.rx_tags.specs.Seen.{tag_seen}
use Rattle.rx_rdfa.specs.Pages.{token_tag}
use Rattle.rx_names.proofs.TagLemmas.{found-attribute}
use Rattle.rx_names.proofs.attributes.attribute.Goals as goal

pub returns : goal.returns
returns c = found-attribute (token_tag (tag_seen c.args.tag.now)).attributes c.args.name.now c.attr.result c.requires c.attr.ensures
