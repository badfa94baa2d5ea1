-- Plain bytes, and the plain characters that they are, also above ASCII.
use Rattle.rx_scan.proofs.Common.{◌≡◌, ◌∙◌, inl, inr, ℕ, ◌≤◌, Bool, true, false, List, [], ◌∷◌, refl, ap, sym, arith, encode_utf8, encode_utf8_all, length, take, drop, get_or, subst, take-add, not, ◌==◌, nat_le, ◌&&◌, ◌+◌, list_all, IsUtf8, nat_tests, list_all-append, encode_ascii, IsUtf8-append, IsUtf8-encode, is_ascii, ascii-utf8, by_test, untrue, is_well_formed, scalar_value, is_in, tail, tables_agree, and_parts, and_from, cases_lt, lt-ltb, or_parts, both_ways, leb-false, eqb-true, is_stop, is_plain_char, is_plain_ascii, fits_second, leb-true}
use Rattle.rx_chars.proofs.Utf8Rows.{whole_two, whole_three, whole_four}
use Rattle.rx_scan.specs.WideChars.{BeginsWide}

-- a plain character is none that isn't
pub is_none : (b d : ℕ) → is_plain_char b ≡ true → is_plain_char d ≡ false → (b == d) ≡ false
is_none b d h k = by_test {G = (b == d) ≡ false} (b == d) (λ e. absurd (both_ways (is_plain_char d) k (ap is_plain_char (sym (eqb-true b d e)) ∙ h))) (λ e. e)

-- what holds of each byte that passes one test holds of all
pub weaker : (p q : ℕ → Bool) → ((x : ℕ) → p x ≡ true → q x ≡ true) → (xs : List ℕ) → list_all p xs ≡ true → list_all q xs ≡ true
weaker p q f [] h = refl
weaker p q f (x ∷ xs) h = let k = and_parts (p x) _ h in and_from (q x) _ (f x k.0) (weaker p q f xs k.1)

pub ascii_plain : (xs : List ℕ) → list_all is_plain_ascii xs ≡ true → list_all is_plain_char xs ≡ true
ascii_plain xs h = weaker is_plain_ascii is_plain_char (λ x k. ap not (or_parts (is_stop x) (nat_le 128 x) (untrue _ k)).0) xs h

pub ascii_text : (xs : List ℕ) → list_all is_plain_ascii xs ≡ true → IsUtf8 xs
ascii_text xs h = ascii-utf8 xs (weaker is_plain_ascii is_ascii (λ x k. lt-ltb x 128 (leb-false 128 x (or_parts (is_stop x) (nat_le 128 x) (untrue _ k)).1)) xs h)

-- no character above ASCII is a stop
pub high_plain : (c : ℕ) → 128 ≤ c → is_plain_char c ≡ true
high_plain c h = grind (arith, nat_tests)

char_plain : (c : ℕ) → list_all is_plain_char (encode_utf8 c) ≡ true → is_plain_char c ≡ true
char_plain c h = elim (cases_lt c 128) [
  | inl low ↦ (and_parts (is_plain_char c) true (ap (list_all is_plain_char) (sym (encode_ascii c low)) ∙ h)).0
  | inr high ↦ high_plain c high
]

-- characters are plain where their bytes are
pub chars_plain : (cs : List ℕ) → list_all is_plain_char (encode_utf8_all cs) ≡ true → list_all is_plain_char cs ≡ true
chars_plain [] h = refl
chars_plain (c ∷ cs) h =
    let k = and_parts (list_all is_plain_char (encode_utf8 c)) _ (sym (list_all-append is_plain_char (encode_utf8 c) (encode_utf8_all cs)) ∙ h) in
    and_from (is_plain_char c) _ (char_plain c k.0) (chars_plain cs k.1)

-- a well-formed sequence is text
formed_text : (bytes : List ℕ) → is_well_formed bytes ≡ true → IsUtf8 bytes
formed_text bytes h =
    let k = (tables_agree bytes (scalar_value bytes)).0 (record { well_formed = h; scalar = refl }) in
    subst (λ (x : List ℕ). IsUtf8 x) k.1 (IsUtf8-encode (scalar_value bytes) k.0)

-- its bytes are no ASCII
high_all : (bytes : List ℕ) → list_all (nat_le 128) bytes ≡ true → list_all is_plain_char bytes ≡ true
high_all = weaker (nat_le 128) is_plain_char (λ x h. high_plain x (leb-true 128 x h))

-- two, three or four bytes at the front
pub two_begin : (bytes : List ℕ) → 2 ≤ length bytes → (is_in (0xC2, 0xDF) (get_or bytes 0 0) && is_in tail (get_or bytes 1 0)) ≡ true → BeginsWide bytes 2
two_begin (a ∷ b ∷ bytes) f h = record { fits = f; text = formed_text (a ∷ b ∷ []) (whole_two a b ∙ h); plain = high_all (a ∷ b ∷ []) (grind (arith, nat_tests)) }
two_begin _ f h = absurd (omega (arith, f))

pub three_begin : (bytes : List ℕ) → 3 ≤ length bytes → (is_in (0xE0, 0xEF) (get_or bytes 0 0) && (fits_second (get_or bytes 0 0) (get_or bytes 1 0) && is_in tail (get_or bytes 2 0))) ≡ true → BeginsWide bytes 3
three_begin (a ∷ b ∷ c ∷ bytes) f h = record { fits = f; text = formed_text (a ∷ b ∷ c ∷ []) (whole_three a b c ∙ h); plain = high_all (a ∷ b ∷ c ∷ []) (grind (arith, nat_tests)) }
three_begin _ f h = absurd (omega (arith, f))

pub four_begin : (bytes : List ℕ) → 4 ≤ length bytes → (is_in (0xF0, 0xF4) (get_or bytes 0 0) && (fits_second (get_or bytes 0 0) (get_or bytes 1 0) && (is_in tail (get_or bytes 2 0) && is_in tail (get_or bytes 3 0)))) ≡ true → BeginsWide bytes 4
four_begin (a ∷ b ∷ c ∷ d ∷ bytes) f h = record { fits = f; text = formed_text (a ∷ b ∷ c ∷ d ∷ []) (whole_four a b c d ∙ h); plain = high_all (a ∷ b ∷ c ∷ d ∷ []) (grind (arith, nat_tests)) }
four_begin _ f h = absurd (omega (arith, f))

-- plain text goes on with plain text
pub plain_more : (count more : ℕ) (bytes : List ℕ) → list_all is_plain_char (take count bytes) ≡ true → list_all is_plain_char (take more (drop count bytes)) ≡ true → list_all is_plain_char (take (count + more) bytes) ≡ true
plain_more count more bytes h k =
    subst (λ (x : List ℕ). list_all is_plain_char x ≡ true) (sym (take-add count more bytes))
    (list_all-append is_plain_char (take count bytes) (take more (drop count bytes)) ∙ and_from (list_all is_plain_char (take count bytes)) _ h k)

pub text_more : (count more : ℕ) (bytes : List ℕ) → IsUtf8 (take count bytes) → IsUtf8 (take more (drop count bytes)) → IsUtf8 (take (count + more) bytes)
text_more count more bytes h k = subst (λ (x : List ℕ). IsUtf8 x) (sym (take-add count more bytes)) (IsUtf8-append (take count bytes) (take more (drop count bytes)) h k)
