use Rattle.rx_turtle.proofs.Common.{take, triples_seen, IsWritable}
use Rattle.rx_turtle.proofs.token_uses.is_graph.Given as goal

abbrev pub invariant-loop-i : goal.invariant-loop-i
invariant-loop-i l = IsWritable (triples_seen (take l.i l.graph))
