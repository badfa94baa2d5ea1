use Rattle.rx_turtle.proofs.Common.{◌∙◌, ap, sym, names_rise}
use Rattle.rx_turtle.proofs.PlaceLemmas.{rises}
use Rattle.rx_turtle.proofs.shorts.Shorts.len.Goals as goal

pub returns-clause-in_order : goal.returns-clause-in_order
returns-clause-in_order c = ap names_rise (sym c.self.view_is) ∙ rises c.self.inside.context.now.prefixes ∙ c.prefix_count.ensures.in_order
