use Rattle.rx_eval.proofs.Common.{drop, Some, put_each}
use Rattle.rx_eval.proofs.EntryLemmas.{ToPut}
use Rattle.rx_eval.proofs.entries.add_each.Given as goal

abbrev pub invariant-loop-i : goal.invariant-loop-i
invariant-loop-i l = ToPut l.owner.0 (Some (Some l.item)) (drop l.i l.predicates) l.lists (put_each l.owner.0 (Some (Some l.item)) l.predicates l.initial.lists)
