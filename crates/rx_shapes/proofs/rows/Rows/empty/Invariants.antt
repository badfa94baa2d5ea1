use Rattle.rx_shapes.proofs.Common.{◌≡◌, empty_rows}
use Rattle.rx_shapes.proofs.rows.Rows.empty.Given as goal

abbrev pub invariant-loop : goal.invariant-loop
invariant-loop l = l.rows ≡ empty_rows l.counter
