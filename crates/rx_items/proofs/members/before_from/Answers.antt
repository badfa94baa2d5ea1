use Rattle.std.proofs.Common.{◌≤◌, ℕ, subst}
use Rattle.rx_items.proofs.WalkLemmas.{point_here}
use Rattle.rx_items.proofs.members.before_from.Goals as goal

pub returns-then-key_at-bound : goal.returns-then-key_at-bound
returns-then-key_at-bound c up =
    let l = c.loop-at in
    point_here c.args.rows.now c.args.members.now c.args.bound l.at _ c.loop-at-test.true (subst (λ (n : ℕ). c.args.bound ≤ n) c.key_at.ensures c.if-key_at-bound.true) up (l.invariant up)
