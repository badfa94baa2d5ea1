use Rattle.rx_grammar.proofs.Common.{◌∙◌, refl, holding_names}
use Rattle.rx_nest.proofs.NameLemmas.{among-chars}
use Rattle.rx_nest.proofs.element_names.is_holding.Goals as goal

pub returns : goal.returns
returns c = c.is_holding.ensures ∙ among-chars holding_names refl c.args.parent.now c.utf8.parent
