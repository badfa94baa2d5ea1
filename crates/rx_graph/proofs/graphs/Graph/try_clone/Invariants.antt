use Rattle.std.proofs.Common.{◌≡◌, take}
use Rattle.rx_graph.proofs.graphs.Graph.try_clone.Given as goal

abbrev pub invariant-loop-i : goal.invariant-loop-i
invariant-loop-i l = l.triples ≡ take l.i l.self
