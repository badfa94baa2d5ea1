use Rattle.rx_terms.proofs.Common.{◌∙◌, chars}
use Rattle.rx_names.proofs.MarkLemmas.{begins}
use Rattle.rx_names.proofs.attributes.is_namespace.Goals as goal

pub returns : goal.returns
returns c = c.is_some.ensures ∙ begins (chars c.args.name.now) c.behind.result c.behind.ensures
