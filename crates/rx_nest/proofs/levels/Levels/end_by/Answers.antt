use Rattle.rx_nest.proofs.Common.{◌≤◌, subst, length, Opened}
use Rattle.rx_nest.proofs.LevelLemmas.{fitting}
use Rattle.rx_nest.proofs.levels.Levels.end_by.Goals as goal

pub returns-then-not-is_omissible-clause-fits : goal.returns-then-not-is_omissible-clause-fits
returns-then-not-is_omissible-clause-fits c = subst (λ (v : Opened). length v.levels ≤ v.room) c.self.view_is (fitting c.self.inside.depth c.self.inside.room c.self.inside.levels.items c.self.invariant)

pub returns-clause-fits : goal.returns-clause-fits
returns-clause-fits c = subst (λ (v : Opened). length v.levels ≤ v.room) c.self.view_is (fitting c.self.inside.depth c.self.inside.room c.self.inside.levels.items c.self.invariant)
