use Rattle.rx_terms.proofs.Common.{◌≡◌, drop, list_all, is_letter_or_digit}
use Rattle.rx_tags.proofs.references.are_letters_or_digits.Given as goal

abbrev pub invariant-loop-c : goal.invariant-loop-c
invariant-loop-c l = list_all is_letter_or_digit l.text ≡ list_all is_letter_or_digit (drop l.c-index l.text)
