use Rattle.rx_eval.proofs.Common.{ℕ, sym, subst, Node, facts_seen, Opens, referred_by}
use Rattle.rx_eval.proofs.ReferringLemmas.{opens_referring}
use Rattle.rx_eval.proofs.pending.open_settled.Goals as goal

pub returns-then-lets_wait-clause-ok : goal.returns-then-lets_wait-clause-ok
returns-then-lets_wait-clause-ok c =
    subst (λ (x : Node ℕ). Opens c.args.stack.now (facts_seen c.args.facts.now) (referred_by x 0 c.args.stack.now)) (sym c.in_ok-resolve.ensures)
    (opens_referring c.args.stack.now (facts_seen c.args.facts.now) c.in-Some.reference.now c.in-Some.ensures (c.lets_wait.ensures c.if-lets_wait.true).nothing_hangs)
