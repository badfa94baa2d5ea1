use Rattle.rx_shapes.proofs.Common.{take, triples_seen, HasNodes}
use Rattle.rx_shapes.proofs.index.Index.add_all.Given as goal

abbrev pub invariant-loop-i : goal.invariant-loop-i
invariant-loop-i l = HasNodes (triples_seen (take l.i l.graph)) l.self
