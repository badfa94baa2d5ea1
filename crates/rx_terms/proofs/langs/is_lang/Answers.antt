use Rattle.rx_terms.proofs.Common.{◌≡◌, ◌∙◌, ℕ, List, sym, ap, true, false, ◌==◌, arith, chars, chars_rest, chars_past_char, IsUtf8-past_char, nat_tests, chars-end}
use Rattle.rx_terms.proofs.LangLemmas.{is_left, left-start, left-hyphen, left-empty, left-char, left-other, left-end}
use Rattle.rx_terms.proofs.langs.is_lang.Goals as goal

pub returns-then-is_empty : goal.returns-then-is_empty
returns-then-is_empty c =
    let next = chars_past_char _ _ _ c.loop-c.invariant.utf8 c.in-Some.ensures.steps.0 in
    let hyphen : (c.in-Some.c == 45) ≡ true = grind (arith, nat_tests) in
    sym (c.loop-c.invariant.left ∙ ap (is_left c.loop-c.first c.loop-c.is_empty) next ∙ left-empty _ _ _ _ hyphen c.if-is_empty.true)

pub loop-c-preserved-then-c-eq45 : goal.loop-c-preserved-then-c-eq45
loop-c-preserved-then-c-eq45 c =
    let next = chars_past_char _ _ _ c.loop-c.invariant.utf8 c.in-Some.ensures.steps.0 in
    let hyphen : (c.in-Some.c == 45) ≡ true = grind (arith, nat_tests) in
    record {
      can_next = tt;
      finite = tt;
      utf8 = IsUtf8-past_char _ _ _ c.loop-c.invariant.utf8 c.in-Some.ensures.steps.0;
      left = c.loop-c.invariant.left ∙ ap (is_left c.loop-c.first c.loop-c.is_empty) next ∙ left-hyphen _ _ _ _ hyphen c.if-is_empty.false;
    }

pub returns-then-not-is_subtag_char : goal.returns-then-not-is_subtag_char
returns-then-not-is_subtag_char c =
    let next = chars_past_char _ _ _ c.loop-c.invariant.utf8 c.in-Some.ensures.steps.0 in
    let other : (c.in-Some.c == 45) ≡ false = grind (arith, nat_tests) in
    sym (c.loop-c.invariant.left ∙ ap (is_left c.loop-c.first c.loop-c.is_empty) next ∙ left-other _ c.loop-c.is_empty _ _ other (sym c.if-not-is_subtag_char.ensures))

pub loop-c-preserved : goal.loop-c-preserved
loop-c-preserved c =
    let next = chars_past_char _ _ _ c.loop-c.invariant.utf8 c.in-Some.ensures.steps.0 in
    let other : (c.in-Some.c == 45) ≡ false = grind (arith, nat_tests) in
    record {
      can_next = tt;
      finite = tt;
      utf8 = IsUtf8-past_char _ _ _ c.loop-c.invariant.utf8 c.in-Some.ensures.steps.0;
      left = c.loop-c.invariant.left ∙ ap (is_left c.loop-c.first c.loop-c.is_empty) next ∙ left-char _ c.loop-c.is_empty _ _ other (sym c.if-not-is_subtag_char.ensures);
    }

pub returns : goal.returns
returns c =
    let end = chars-end _ c.in-None.ensures.steps.0.0 in
    sym (c.loop-c.invariant.left ∙ ap (is_left c.loop-c.first c.loop-c.is_empty) end ∙ left-end c.loop-c.first c.loop-c.is_empty)

pub loop-c-init : goal.loop-c-init
loop-c-init c =
    let whole : chars_rest c.into_iter-c-iterator.result ≡ c.args.text.now = ap chars_rest c.into_iter-c-iterator.ensures.into_iter_gives ∙ c.chars-c-items.ensures.rest in
    record {
      can_next = tt;
      finite = tt;
      utf8 = rw whole c.utf8.text;
      left = left-start (chars c.args.text.now) ∙ ap (λ (text : List ℕ). is_left true true (chars text)) (sym whole);
    }
