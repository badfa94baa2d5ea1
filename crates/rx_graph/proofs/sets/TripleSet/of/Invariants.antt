use Rattle.std.proofs.Common.{length}
use Rattle.rx_graph.proofs.RestLemmas.{Rest}
use Rattle.rx_graph.proofs.sets.TripleSet.of.Given as goal

abbrev pub invariant-loop-triple : goal.invariant-loop-triple
invariant-loop-triple l = Rest l.fn.triples.items l.set l.rest.items

abbrev pub decreases-loop-triple : goal.decreases-loop-triple
decreases-loop-triple l = length l.rest.items
