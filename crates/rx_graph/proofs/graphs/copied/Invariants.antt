use Rattle.std.proofs.Common.{◌≡◌, take}
use Rattle.rx_graph.proofs.graphs.copied.Given as goal

abbrev pub invariant-loop-i : goal.invariant-loop-i
invariant-loop-i l = l.copied ≡ take l.i l.triples
