use Rattle.rx_nest.proofs.Common.{◌∙◌, sym, ap, chars-nil, Levels, name_under}
use Rattle.rx_nest.proofs.levels.Levels.name.Goals as goal

pub returns-in-None : goal.returns-in-None
returns-in-None c = chars-nil ∙ ap (λ (l : Levels). name_under l) (sym (c.in-None.ensures))
