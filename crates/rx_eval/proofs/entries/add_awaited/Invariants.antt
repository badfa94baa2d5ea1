use Rattle.rx_eval.proofs.Common.{drop, put_awaited}
use Rattle.rx_eval.proofs.EntryLemmas.{ToAwait}
use Rattle.rx_eval.proofs.entries.add_awaited.Given as goal

abbrev pub invariant-loop-one : goal.invariant-loop-one
invariant-loop-one l = ToAwait l.item (drop l.one-index l.waiting) l.lists (put_awaited l.item l.waiting l.initial.lists)
