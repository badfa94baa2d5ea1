use Rattle.std.proofs.Common.{sym, subst}
use Rattle.rx_walk.specs.Checks.{CheckStands}
use Rattle.rx_walk.proofs.checks.Check.feed.Goals as goal

pub returns-clause-gives : goal.returns-clause-gives
returns-clause-gives c setting bytes s = c.feed.ensures.gives setting bytes (subst (λ v. CheckStands setting v bytes) (sym c.self.view_is) s)

pub returns-clause-place : goal.returns-clause-place
returns-clause-place c setting bytes s = c.feed.ensures.place setting bytes (subst (λ v. CheckStands setting v bytes) (sym c.self.view_is) s)

pub returns-clause-quiet : goal.returns-clause-quiet
returns-clause-quiet c setting bytes s between q = c.feed.ensures.quiet setting bytes (subst (λ v. CheckStands setting v bytes) (sym c.self.view_is) s) between q tt
