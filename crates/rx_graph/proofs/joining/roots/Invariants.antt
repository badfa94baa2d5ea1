use Rattle.rx_graph.specs.Ways.{Joined}
use Rattle.rx_graph.proofs.joining.roots.Given as goal

abbrev pub invariant-loop-number : goal.invariant-loop-number
invariant-loop-number l = Joined l.links l.roots
