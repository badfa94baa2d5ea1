use Rattle.rx_model.proofs.Common.{take, triples_seen}
use Rattle.rx_graph.specs.Patterns.{edges_by}
use Rattle.rx_graph.specs.Copying.{AreLinks}
use Rattle.rx_graph.proofs.links.links.Given as goal

abbrev pub invariant-loop-i : goal.invariant-loop-i
invariant-loop-i l = AreLinks (edges_by l.nodes (triples_seen (take l.i l.triples))) l.nodes l.links
