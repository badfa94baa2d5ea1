use Rattle.rx_eval.proofs.Common.{drop, None, put_each}
use Rattle.rx_eval.proofs.EntryLemmas.{ToPut}
use Rattle.rx_eval.proofs.entries.touch_each.Given as goal

abbrev pub invariant-loop-i : goal.invariant-loop-i
invariant-loop-i l = ToPut l.owner.0 None (drop l.i l.predicates) l.lists (put_each l.owner.0 None l.predicates l.initial.lists)
