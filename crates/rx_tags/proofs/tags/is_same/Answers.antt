use Rattle.rx_terms.proofs.Common.{◌∙◌, same-chars}
use Rattle.rx_tags.proofs.tags.is_same.Goals as goal

pub returns : goal.returns
returns c = c.eq.ensures ∙ same-chars c.args.a.now c.args.b.now c.utf8.a c.utf8.b
