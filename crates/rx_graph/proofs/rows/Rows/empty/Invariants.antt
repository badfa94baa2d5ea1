use Rattle.std.proofs.Common.{◌≡◌}
use Rattle.rx_graph.specs.Rows.{empty_rows}
use Rattle.rx_graph.proofs.rows.Rows.empty.Given as goal

abbrev pub invariant-loop : goal.invariant-loop
invariant-loop l = l.rows ≡ empty_rows l.counter
