use Rattle.std.proofs.Common.{sym, subst}
use Rattle.rx_walk.specs.Checks.{CheckStands}
use Rattle.rx_walk.proofs.checks.Check.finish.Goals as goal

pub returns-in-Ok-clause-gives : goal.returns-in-Ok-clause-gives
returns-in-Ok-clause-gives c setting bytes s =
    let w = c.in-Ok.ensures.gives setting bytes (subst (λ v. CheckStands setting v bytes) (sym c.self.view_is) s) in
    record { tree = w.tree; page = w.page; accepted = w.accepted }

pub returns-in-Err-clause-gives : goal.returns-in-Err-clause-gives
returns-in-Err-clause-gives c setting bytes s = c.in-Err.ensures.gives setting bytes (subst (λ v. CheckStands setting v bytes) (sym c.self.view_is) s)
