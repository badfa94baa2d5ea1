use Rattle.rx_grammar.proofs.Common.{◌∙◌, refl, void_names}
use Rattle.rx_nest.proofs.NameLemmas.{among-chars}
use Rattle.rx_nest.proofs.element_names.is_void.Goals as goal

pub returns : goal.returns
returns c = c.is_void.ensures ∙ among-chars void_names refl c.args.name.now c.utf8.name
