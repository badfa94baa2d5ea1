use Rattle.rx_grammar.proofs.Common.{◌∙◌, refl, omissible_rows}
use Rattle.rx_nest.proofs.NameLemmas.{row-chars}
use Rattle.rx_nest.proofs.element_names.row_of.Goals as goal

pub returns : goal.returns
returns c = c.row_of.ensures ∙ row-chars omissible_rows refl c.args.name.now c.utf8.name
