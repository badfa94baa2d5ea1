use Rattle.rx_terms.proofs.Common.{◌∙◌, chars}
use Rattle.rx_curie.proofs.ReadLemmas.{begins-slashes}
use Rattle.rx_curie.proofs.readings.begins_with_slashes.Goals as goal

pub returns : goal.returns
returns c = c.is_some.ensures ∙ begins-slashes (chars c.args.text.now) c.behind.result c.behind.ensures
