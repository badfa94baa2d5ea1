use Rattle.rx_eval.proofs.Common.{◌<◌, ◌∙◌, ℕ, sym, subst, length, facts_seen, Opens, State, with_pending}
use Rattle.rx_eval.proofs.ReferringLemmas.{rooted_waits}
use Rattle.rx_eval.proofs.SilentLemmas.{skipped_opens}
use Rattle.rx_eval.proofs.pending.open.Goals as goal

pub returns-then-says_nothing-clause-ok : goal.returns-then-says_nothing-clause-ok
returns-then-says_nothing-clause-ok c =
    let old : State = with_pending c.args.pending.now c.args.stack.now in
    let inside : 0 < length c.args.stack.now.frames = subst (λ (n : ℕ). 0 < n) c.depth.ensures c.if-depth-gt0.true in
    subst (λ (x : State). Opens old (facts_seen c.args.facts.now) x) (sym c.open_silent.ensures.state)
    (skipped_opens old (facts_seen c.args.facts.now) (sym c.says_nothing.ensures ∙ c.if-says_nothing.true) (rooted_waits c.args.pending.now c.args.stack.now inside))
