use Rattle.rx_graph.specs.Ways.{Marked}
use Rattle.rx_graph.proofs.joining.marked.Given as goal

abbrev pub invariant-loop-i : goal.invariant-loop-i
invariant-loop-i l = Marked l.rows l.marks
