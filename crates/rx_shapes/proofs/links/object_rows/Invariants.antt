use Rattle.rx_shapes.proofs.Common.{◌≡◌, ℕ, length, take, Triple, triples_seen, object_number, filed, table}
use Rattle.rx_shapes.proofs.links.object_rows.Given as goal

abbrev pub invariant-loop-i : goal.invariant-loop-i
invariant-loop-i l = l.rows ≡ table (filed (λ (t : Triple ℕ). object_number l.index t.object) (take l.i (triples_seen l.graph))) 0 (length l.index)
