use Rattle.rx_model.proofs.Common.{take, triples_seen}
use Rattle.rx_graph.specs.Patterns.{ArePatterns}
use Rattle.rx_graph.proofs.patterns.pattern_nodes.Given as goal

abbrev pub invariant-loop-i : goal.invariant-loop-i
invariant-loop-i l = ArePatterns (triples_seen (take l.i l.triples)) l.nodes
