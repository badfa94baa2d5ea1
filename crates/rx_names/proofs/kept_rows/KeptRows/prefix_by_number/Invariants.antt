use Rattle.rx_names.proofs.Common.{chars, lowered, number_of, prefix_in, reach}
use Rattle.rx_names.proofs.RowLemmas.{RowsTold}
use Rattle.rx_names.proofs.kept_rows.KeptRows.prefix_by_number.Given as goal

abbrev pub invariant-loop-next : goal.invariant-loop-next
invariant-loop-next l = RowsTold (prefix_in (lowered (chars l.name))) (number_of (lowered (chars l.name))) l.self-inside.rows.items l.self-inside.places l.next

abbrev pub decreases-loop-next : goal.decreases-loop-next
decreases-loop-next l = reach l.next
