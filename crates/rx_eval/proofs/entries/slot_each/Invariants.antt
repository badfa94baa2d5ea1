use Rattle.rx_eval.proofs.Common.{drop, Some, None, put_each, slots_for}
use Rattle.rx_eval.proofs.EntryLemmas.{ToPut, ToReserve}
use Rattle.rx_eval.proofs.entries.slot_each.Given as goal

abbrev pub invariant-loop-i : goal.invariant-loop-i
invariant-loop-i l = record {
  lists : ToPut l.owner.0 (Some None) (drop l.i l.predicates) l.lists (put_each l.owner.0 (Some None) l.predicates l.initial.lists);
  slots : ToReserve l.owner (drop l.i l.predicates) l.lists l.slots.items (slots_for l.owner l.predicates l.initial.lists);
}
