-- The digits of a number before others.
use Rattle.rx_terms.proofs.Common.{◌≡◌, ◌∙◌, ℕ, ◌+◌, ◌-◌, ◌/◌, ◌%◌, ◌^◌, ◌<◌, ◌≤◌, List, [], ◌∷◌, ◌++◌, length, drop, set, append_assoc, sym, ap, arith, decimal, decimal_digit, decimal_step, decimal_nonempty}
use Rattle.std.proofs.lemmas.List.{drop-set, length-append}

pub some : (number end : ℕ) → number < 2 ^ 64 → length (decimal number) ≤ end → 1 ≤ end
some number end fits room = omega (arith, decimal_nonempty number fits, room)

-- the last byte before the place
last_byte : (text : List ℕ) (end byte : ℕ) → 1 ≤ end → end ≤ length text → drop (end - 1) (set text (end - 1) byte) ≡ byte ∷ drop end text
last_byte text end byte low high =
    let at : end - 1 + 1 ≡ end = omega (arith, low) in
    drop-set text (end - 1) byte (omega (arith, low, high)) ∙ ap (λ n. byte ∷ drop n text) at

pub one_long : (number : ℕ) → number < 10 → length (decimal number) ≡ 1
one_long number small = ap length (decimal_digit number small)

pub one_digit : (text : List ℕ) (end number : ℕ) → number < 10 → 1 ≤ end → end ≤ length text → drop (end - 1) (set text (end - 1) (48 + number % 10)) ≡ decimal number ++ drop end text
one_digit text end number small low high =
    let digit : 48 + number % 10 ≡ 48 + number = omega (arith, small) in
    last_byte text end (48 + number % 10) low high ∙ ap (λ d. d ∷ drop end text) digit ∙ ap (λ z. z ++ drop end text) (sym (decimal_digit number small))

pub one_longer : (number : ℕ) → 10 ≤ number → number < 2 ^ 64 → length (decimal number) ≡ length (decimal (number / 10)) + 1
one_longer number large fits = ap length (decimal_step number large fits) ∙ length-append (decimal (number / 10)) ((48 + number % 10) ∷ [])

pub one_more : (text : List ℕ) (end number : ℕ) → 10 ≤ number → number < 2 ^ 64 → 1 ≤ end → end ≤ length text
    → decimal (number / 10) ++ drop (end - 1) (set text (end - 1) (48 + number % 10)) ≡ decimal number ++ drop end text
one_more text end number large fits low high =
    ap (λ z. decimal (number / 10) ++ z) (last_byte text end (48 + number % 10) low high)
    ∙ sym (append_assoc (decimal (number / 10)) ((48 + number % 10) ∷ []) (drop end text)) ∙ ap (λ z. z ++ drop end text) (sym (decimal_step number large fits))
