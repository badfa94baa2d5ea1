use Rattle.rx_names.specs.Rows.{language_in}
use Rattle.rx_names.proofs.RowLemmas.{RowsTold, reach}
use Rattle.rx_names.proofs.kept_rows.KeptRows.language.Given as goal

abbrev pub invariant-loop-next : goal.invariant-loop-next
invariant-loop-next l = RowsTold (language_in) (1) l.self-inside.rows.items l.self-inside.places l.next

abbrev pub decreases-loop-next : goal.decreases-loop-next
decreases-loop-next l = reach l.next
