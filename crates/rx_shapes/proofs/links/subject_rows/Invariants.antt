use Rattle.rx_shapes.proofs.Common.{◌≡◌, ℕ, length, take, Triple, triples_seen, number_in, filed, table}
use Rattle.rx_shapes.proofs.links.subject_rows.Given as goal

abbrev pub invariant-loop-i : goal.invariant-loop-i
invariant-loop-i l = l.rows ≡ table (filed (λ (t : Triple ℕ). number_in l.index t.subject) (take l.i (triples_seen l.graph))) 0 (length l.index)
