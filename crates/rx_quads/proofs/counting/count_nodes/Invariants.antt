use Rattle.rx_model.proofs.Common.{◌≡◌, take, triples_seen}
use Rattle.rx_quads.specs.Raised.{past}
use Rattle.rx_quads.proofs.counting.count_nodes.Given as goal

abbrev pub invariant-loop-i : goal.invariant-loop-i
invariant-loop-i l = l.count ≡ past (triples_seen (take l.i l.graph))
