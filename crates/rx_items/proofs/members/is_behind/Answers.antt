use Rattle.rx_terms.proofs.Common.{◌<◌, ℕ, subst, arith, ltb-true}
use Rattle.rx_items.proofs.WalkLemmas.{first_by_last}
use Rattle.rx_items.proofs.members.is_behind.Goals as goal

pub returns-then-count-members : goal.returns-then-count-members
returns-then-count-members c is up =
    first_by_last c.args.rows.now c.args.members.now c.args.bound c.args.count _ (omega (arith, c.if-count-eq0.false)) c.if-count-members.true
    (subst (λ (n : ℕ). n < c.args.bound) c.key_at.ensures (ltb-true c.key_at.result c.args.bound is)) up
