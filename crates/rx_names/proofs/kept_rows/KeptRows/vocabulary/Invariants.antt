use Rattle.rx_names.specs.Rows.{vocabulary_in}
use Rattle.rx_names.proofs.RowLemmas.{RowsTold, reach}
use Rattle.rx_names.proofs.kept_rows.KeptRows.vocabulary.Given as goal

abbrev pub invariant-loop-next : goal.invariant-loop-next
invariant-loop-next l = RowsTold (vocabulary_in) (0) l.self-inside.rows.items l.self-inside.places l.next

abbrev pub decreases-loop-next : goal.decreases-loop-next
decreases-loop-next l = reach l.next
