use Rattle.rx_items.proofs.Common.{◌∙◌, ap, source_of}
use Rattle.rx_items.proofs.RuleLemmas.{source-chars}
use Rattle.rx_items.proofs.values.source_for.Goals as goal

pub returns-clause-source : goal.returns-clause-source
returns-clause-source c = c.source_of.ensures.source ∙ source-chars c.name.result.now c.name.utf8 ∙ ap source_of c.name.ensures
