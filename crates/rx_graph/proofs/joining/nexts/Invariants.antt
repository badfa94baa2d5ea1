use Rattle.rx_graph.proofs.WayLemmas.{NextsTo}
use Rattle.rx_graph.proofs.joining.nexts.Given as goal

abbrev pub invariant-loop-number : goal.invariant-loop-number
invariant-loop-number l = NextsTo l.links l.roots l.nexts l.number
