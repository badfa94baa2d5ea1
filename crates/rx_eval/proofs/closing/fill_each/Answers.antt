use Rattle.rx_eval.proofs.SeenLemmas.{seen_filled, all_filled}
use Rattle.rx_eval.proofs.closing.fill_each.Goals as goal

pub returns-clause-seen : goal.returns-clause-seen
returns-clause-seen c = seen_filled c.args.lists.now _ c.args.slots.now c.args.value.now
    (all_filled c.args.slots.now c.loop-slot.slot-index c.args.value.now _ _ c.loop-slot-test.false c.loop-slot.invariant)
