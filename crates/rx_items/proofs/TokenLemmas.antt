-- A text without white space is a token.
use Rattle.rx_terms.proofs.Common.{◌≡◌, ◌∙◌, ℕ, ◌<◌, nat_lt, cond, Bool, true, false, List, [], ◌∷◌, length, take, drop, get_or, refl, ap, arith, Some, None, not, ◌==◌, is_ascii_whitespace, chars, IsUtf8, IsTrimAsciiStart, nat_tests, take_all, length-drop, tokens, chars-end, untrue, both, fails_before_first}
use Rattle.std.specs.List.{list_all, position_or_len, position}
use Rattle.rx_words.proofs.TokenLemmas.{found-end, first-token, tokens-first}

pub one_token : (text : List ℕ) (empty : Bool) → IsUtf8 text → None ≡ position is_ascii_whitespace text → empty ≡ (length text == 0) → not empty ≡ true
    → tokens (chars text) ≡ chars text ∷ []
one_token text empty utf8 none is some =
    let end = found-end text None (length text) none refl in
    let filled : 0 < length text = grind (arith, nat_tests) in
    let first : is_ascii_whitespace (get_or text 0 0) ≡ false = fails_before_first is_ascii_whitespace text 0 0 (omega (arith, end, filled)) in
    let untrimmed : IsTrimAsciiStart text text = (0, refl, omega arith, (λ i l. absurd (omega (arith, l))), (λ l. first)) in
    let cut = first-token text text (take (length text) text) (drop (length text) text) (length text) empty utf8 utf8 untrimmed is (untrue empty some) end refl refl in
    let front : chars (take (length text) text) ≡ chars text = ap chars (take_all (length text) text (omega arith)) in
    let rest : tokens (chars (drop (length text) text)) ≡ [] = ap tokens (chars-end (drop (length text) text) (omega (arith, length-drop (length text) text))) in
    tokens-first (chars text) (chars (take (length text) text)) (chars (drop (length text) text)) cut.0 ∙ (λ i. front i ∷ rest i)

visible : (c : ℕ) → nat_lt 32 c ≡ true → is_ascii_whitespace c ≡ false
visible c h = grind (arith, nat_tests)

none_white : (text : List ℕ) → list_all (λ b. nat_lt 32 b) text ≡ true → position_or_len is_ascii_whitespace text ≡ length text
none_white [] h = refl
none_white (c ∷ text) h =
    let parts = both (nat_lt 32 c) (list_all (λ b. nat_lt 32 b) text) h in
    rw (visible c parts.0) (omega (arith, none_white text parts.1))

no_place : (n m : ℕ) → n ≡ m → None ≡ cond (nat_lt n m) (Some n) None
no_place n m e =
    let below : nat_lt m m ≡ false = grind (arith, nat_tests) in
    rw e (rw below refl)

pub unbroken_token : (text : List ℕ) → IsUtf8 text → (length text == 0) ≡ false → list_all (λ b. nat_lt 32 b) text ≡ true → tokens (chars text) ≡ chars text ∷ []
unbroken_token text utf8 filled all = one_token text (length text == 0) utf8 (no_place _ _ (none_white text all)) refl (ap not filled)
