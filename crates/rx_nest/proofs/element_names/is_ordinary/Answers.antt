use Rattle.rx_nest.proofs.Common.{◌∙◌, sym, refl, chars, ordinary_names}
use Rattle.rx_nest.proofs.NameLemmas.{among-chars}
use Rattle.rx_nest.proofs.OrdinaryLemmas.{ordinary}
use Rattle.rx_nest.proofs.element_names.is_ordinary.Goals as goal

pub returns : goal.returns
returns c = λ e. ordinary (chars c.args.name.now) (sym (c.is_ordinary.ensures ∙ among-chars ordinary_names refl c.args.name.now c.utf8.name) ∙ e)
