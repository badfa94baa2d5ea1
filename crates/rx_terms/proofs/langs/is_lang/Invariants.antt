use Rattle.rx_terms.proofs.Common.{◌≡◌, chars, IsUtf8, chars_rest, is_lang}
use Rattle.rx_terms.proofs.LangLemmas.{is_left}
use Rattle.rx_terms.proofs.langs.is_lang.Given as goal

abbrev pub invariant-loop-c : goal.invariant-loop-c
invariant-loop-c l = record {
  can_next : (goal.iterator-loop-c).can_next l.c-iterator;
  finite : (goal.iterator-loop-c).is_finite l.c-iterator;
  utf8 : IsUtf8 (chars_rest l.c-iterator);
  left : is_lang (chars l.text) ≡ is_left l.first l.is_empty (chars (chars_rest l.c-iterator));
}
