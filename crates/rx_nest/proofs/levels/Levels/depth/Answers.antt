use Rattle.rx_nest.proofs.Common.{◌∙◌, sym, ap, length, arith, Opened}
use Rattle.rx_nest.proofs.LevelLemmas.{length_inner}
use Rattle.rx_nest.proofs.levels.Levels.depth.Goals as goal

pub returns-clause-depth : goal.returns-clause-depth
returns-clause-depth c = sym (length_inner c.self.inside.depth c.self.inside.levels.items) ∙ ap (λ (v : Opened). length v.levels) c.self.view_is

pub returns-clause-fits : goal.returns-clause-fits
returns-clause-fits c = let opened = c.self.invariant.0 in let kept = c.self.invariant.1 in rw (sym c.self.view_is) (omega arith)
