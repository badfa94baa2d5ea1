use Rattle.rx_model.proofs.Common.{◌≡◌, false, take, nat_eq, IfSome, list_any, triples_seen, distinct, blanks}
use Rattle.rx_graph.specs.Numbering.{numbers_to}
use Rattle.rx_graph.specs.Patterns.{copies}
use Rattle.rx_graph.proofs.walked.walk.Given as goal

abbrev pub invariant-loop-i : goal.invariant-loop-i
invariant-loop-i l = record {
  none : list_any copies (triples_seen (take l.i l.triples)) ≡ false;
  next : IfSome l.next (λ n. numbers_to n ≡ distinct nat_eq (blanks (triples_seen (take l.i l.triples))));
}
