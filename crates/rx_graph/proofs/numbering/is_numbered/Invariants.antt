use Rattle.rx_model.proofs.Common.{◌≡◌, take, nat_eq, distinct, blanks, triples_seen}
use Rattle.rx_graph.specs.Numbering.{numbers_to}
use Rattle.rx_graph.proofs.numbering.is_numbered.Given as goal

abbrev pub invariant-loop-i : goal.invariant-loop-i
invariant-loop-i l = numbers_to l.next ≡ distinct nat_eq (blanks (triples_seen (take l.i l.graph)))
