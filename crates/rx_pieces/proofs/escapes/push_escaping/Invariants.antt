use Rattle.rx_terms.proofs.Common.{chars, IsUtf8, chars_rest}
use Rattle.rx_pieces.specs.Underway.{delivery}
use Rattle.rx_pieces.proofs.Adding.{Left}
use Rattle.rx_pieces.proofs.escapes.push_escaping.Given as goal

abbrev pub invariant-loop-c : goal.invariant-loop-c
invariant-loop-c g l = record {
  can_next : (goal.iterator-loop-c g).can_next l.c-iterator;
  finite : (goal.iterator-loop-c g).is_finite l.c-iterator;
  utf8 : IsUtf8 (chars_rest l.c-iterator);
  left : Left (delivery l.fn.out (g.S.Sink.held l.fn.sink) (g.S.Sink.faults l.fn.sink)) (delivery l.out (g.S.Sink.held l.sink) (g.S.Sink.faults l.sink)) (chars l.text) (chars (chars_rest l.c-iterator));
}
