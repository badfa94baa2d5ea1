use Rattle.std.proofs.Common.{◌≡◌, ◌++◌}
use Rattle.rx_graph.proofs.sets.TripleSet.into_vec.Given as goal

abbrev pub invariant-loop-triple : goal.invariant-loop-triple
invariant-loop-triple l = l.triples.items ++ l.triple-iterator ≡ l.initial.triple-iterator
