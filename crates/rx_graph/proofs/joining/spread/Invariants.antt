use Rattle.rx_graph.specs.Ways.{Marked}
use Rattle.rx_graph.proofs.joining.spread.Given as goal

abbrev pub invariant-loop : goal.invariant-loop
invariant-loop l = Marked l.rows l.marks
