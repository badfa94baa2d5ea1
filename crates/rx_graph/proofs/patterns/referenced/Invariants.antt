use Rattle.rx_model.proofs.Common.{take, triples_seen}
use Rattle.rx_graph.specs.Patterns.{AreReferenced, edges_by}
use Rattle.rx_graph.proofs.patterns.referenced.Given as goal

abbrev pub invariant-loop-i : goal.invariant-loop-i
invariant-loop-i l = AreReferenced (edges_by l.nodes (triples_seen (take l.i l.triples))) l.referenced
