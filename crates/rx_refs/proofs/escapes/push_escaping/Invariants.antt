use Rattle.rx_refs.proofs.Common.{◌≡◌, ◌++◌, string_bytes, chars, IsUtf8, chars_rest, cleaned, Keeps}
use Rattle.rx_refs.proofs.escapes.push_escaping.Given as goal

abbrev pub invariant-loop-c : goal.invariant-loop-c
invariant-loop-c l = record {
  can_next : (goal.iterator-loop-c).can_next l.c-iterator;
  finite : (goal.iterator-loop-c).is_finite l.c-iterator;
  utf8 : IsUtf8 (chars_rest l.c-iterator);
  front : Keeps (string_bytes l.fn.out) (string_bytes l.out);
  wrote : chars (string_bytes l.fn.out) ++ cleaned (chars l.text) ≡ chars (string_bytes l.out) ++ cleaned (chars (chars_rest l.c-iterator));
}
