use Rattle.rx_eval.proofs.EntryLemmas.{one_put, all_put}
use Rattle.std.proofs.Common.{arith, refl, None}
use Rattle.rx_eval.proofs.SeenLemmas.{seen_each}
use Rattle.rx_eval.proofs.entries.touch_each.Goals as goal

pub loop-i-preserved : goal.loop-i-preserved
loop-i-preserved c = one_put c.args.owner.0 None c.args.predicates.now c.loop-i.i _ _ _ _ c.at.ensures c.in_ok-touch.ensures.ok c.loop-i.invariant

pub returns-clause-seen : goal.returns-clause-seen
returns-clause-seen c =
    seen_each c.args.lists.now c.loop-i.lists c.args.owner.0 None c.args.predicates.now _ refl
    (all_put c.args.owner.0 None c.args.predicates.now c.loop-i.i _ _ (omega (arith, c.loop-i-test.false, c.len-i-end.ensures)) c.loop-i.invariant)
