use Rattle.rx_graph.specs.Ways.{IsTurned}
use Rattle.rx_graph.proofs.joining.turned.Given as goal

abbrev pub invariant-loop-number : goal.invariant-loop-number
invariant-loop-number l = IsTurned l.links l.turned
