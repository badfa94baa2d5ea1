-- Lower case, in bytes and in characters.
use Rattle.rx_terms.proofs.Common.{◌≡◌, ◌∙◌, ℕ, ◌<◌, ◌≤◌, ◌↔◌, Bool, false, List, [], ◌∷◌, ◌++◌, map, sym, ap, refl, arith, bytes_eq, IsTrue, to_ascii_lowercase, nat_tests, same_from_decides, map-append, encodes-chars, encode_ascii, encodes_same, chars_from_encodes, lowered_char, Chars, lowered, by_test, nat_lt, ◌+◌, ◌/◌, bytes_eq-Decides}
use Rattle.std.specs.Str.{chars, IsUtf8, encode_utf8_all}
use Rattle.std.proofs.lemmas.Str.Ascii.{lowercase_is}
use lib.Utf8.{encode, next}

same-lower : (c : ℕ) → c < 128 → to_ascii_lowercase c ≡ lowered_char c
same-lower c l = grind (arith, nat_tests)

small-lower : (c : ℕ) → c < 128 → lowered_char c < 128
small-lower c l = grind (arith, nat_tests)

large-lower : (c : ℕ) → 128 ≤ c → lowered_char c ≡ c
large-lower c l = grind (arith, nat_tests)

byte-lower : (b : ℕ) → 90 < b → to_ascii_lowercase b ≡ b
byte-lower b l = (lowercase_is b).2 l

large-encoded : (c : ℕ) → 128 ≤ c → map to_ascii_lowercase (encode c) ≡ encode c
unfolding encode
large-encoded c l =
    let small : nat_lt c 128 ≡ false = grind (arith, nat_tests) in
    by_test (nat_lt c 2048)
    (λ t. rw (small, t, byte-lower (192 + c / 64) (omega arith), byte-lower (next c) (omega arith)) refl)
    (λ t. by_test (nat_lt c 65536)
    (λ u. rw (small, t, u, byte-lower (224 + c / 4096) (omega arith), byte-lower (next (c / 64)) (omega arith), byte-lower (next c) (omega arith)) refl)
    (λ u. rw (small, t, u, byte-lower (240 + c / 262144) (omega arith), byte-lower (next (c / 4096)) (omega arith), byte-lower (next (c / 64)) (omega arith), byte-lower (next c) (omega arith)) refl))

encoded-lower : (c : ℕ) → map to_ascii_lowercase (encode c) ≡ encode (lowered_char c)
encoded-lower c =
    by_test (nat_lt c 128)
    (λ t.
    let small : c < 128 = grind (arith, nat_tests) in
    ap (map to_ascii_lowercase) (encode_ascii c small) ∙ ap (λ (x : ℕ). x ∷ []) (same-lower c small) ∙ sym (encode_ascii (lowered_char c) (small-lower c small)))
    (λ t.
    let large : 128 ≤ c = grind (arith, nat_tests) in
    large-encoded c large ∙ ap encode (sym (large-lower c large)))

pub encodes-lower : (cs : Chars) → map to_ascii_lowercase (encode_utf8_all cs) ≡ encode_utf8_all (lowered cs)
encodes-lower [] = refl
encodes-lower (c ∷ cs) =
    map-append to_ascii_lowercase (encode c) (encode_utf8_all cs) ∙ ap (λ (x : List ℕ). x ++ map to_ascii_lowercase (encode_utf8_all cs)) (encoded-lower c)
    ∙ ap (λ (x : List ℕ). encode (lowered_char c) ++ x) (encodes-lower cs)

-- what is lowered in bytes is so in characters
pub lower-chars : (bs low : List ℕ) → IsUtf8 bs → IsUtf8 low → low ≡ map to_ascii_lowercase bs → chars low ≡ lowered (chars bs)
lower-chars bs low u v e = sym (chars_from_encodes (lowered (chars bs)) low v (sym (encodes-lower (chars bs)) ∙ ap (map to_ascii_lowercase) (encodes-chars bs u) ∙ sym e))

pub same-lowered : (a b : List ℕ) (r : Bool) → IsUtf8 a → IsUtf8 b → IsTrue r ↔ (map to_ascii_lowercase a ≡ map to_ascii_lowercase b) → r ≡ bytes_eq (lowered (chars a)) (lowered (chars b))
same-lowered a b r u v h =
    same_from_decides _ _ (
      (λ t. encodes_same (lowered (chars a)) (lowered (chars b)) (sym (low a u) ∙ h.0 t ∙ low b v)),
      (λ e. h.1 (low a u ∙ ap encode_utf8_all e ∙ sym (low b v))),
    ) (bytes_eq-Decides (lowered (chars a)) (lowered (chars b))) where
      low : (x : List ℕ) → IsUtf8 x → map to_ascii_lowercase x ≡ encode_utf8_all (lowered (chars x))
      low x w = ap (map to_ascii_lowercase) (sym (encodes-chars x w)) ∙ encodes-lower (chars x)
