use Rattle.rx_eval.proofs.EntryLemmas.{one_put, one_reserved, all_put, all_reserved}
use Rattle.std.proofs.Common.{◌∙◌, arith, refl, Some, None}
use Rattle.rx_eval.proofs.SeenLemmas.{seen_each, places_are}
use Rattle.rx_eval.proofs.entries.slot_each.Goals as goal

pub loop-i-preserved : goal.loop-i-preserved
loop-i-preserved c = record {
  lists = one_put c.args.owner.0 (Some None) c.args.predicates.now c.loop-i.i _ _ _ _ c.at.ensures c.in_ok-slot.ensures.ok c.loop-i.invariant.lists;
  slots = one_reserved c.args.owner c.args.predicates.now c.loop-i.i _ _ _ _ _ _ _ c.at.ensures c.in_ok-slot.ensures.ok c.in_ok-slot.ensures.slot c.in_ok-push.ensures.items c.loop-i.invariant.slots;
}

pub returns-clause-seen : goal.returns-clause-seen
returns-clause-seen c =
    seen_each c.args.lists.now c.loop-i.lists c.args.owner.0 (Some None) c.args.predicates.now _ refl
    (all_put c.args.owner.0 (Some None) c.args.predicates.now c.loop-i.i _ _ (omega (arith, c.loop-i-test.false, c.len-i-end.ensures)) c.loop-i.invariant.lists)

pub returns-clause-places : goal.returns-clause-places
returns-clause-places c =
    all_reserved c.args.owner c.args.predicates.now c.loop-i.i _ _ _ (omega (arith, c.loop-i-test.false, c.len-i-end.ensures)) c.loop-i.invariant.slots
    ∙ places_are c.args.owner c.args.predicates.now c.args.lists.now
