use Rattle.rx_nest.proofs.Common.{◌∙◌, sym, refl, chars, omissible_names}
use Rattle.rx_nest.proofs.NameLemmas.{among-chars}
use Rattle.rx_nest.proofs.OrdinaryLemmas.{plain}
use Rattle.rx_nest.proofs.element_names.is_omissible.Goals as goal

pub returns : goal.returns
returns c = λ e. plain (chars c.args.name.now) (sym (c.is_omissible.ensures ∙ among-chars omissible_names refl c.args.name.now c.utf8.name) ∙ e)
