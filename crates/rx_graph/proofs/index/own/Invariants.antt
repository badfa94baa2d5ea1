use Rattle.rx_model.proofs.Common.{take, triples_seen}
use Rattle.rx_graph.specs.Copying.{AreOwn}
use Rattle.rx_graph.proofs.index.own.Given as goal

abbrev pub invariant-loop-i : goal.invariant-loop-i
invariant-loop-i l = AreOwn (triples_seen (take l.i l.triples)) l.nodes l.roots l.own
