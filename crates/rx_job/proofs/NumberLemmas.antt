-- Numbers of the command line.
use Rattle.rx_terms.proofs.Common.{◌≡◌, ◌∙◌, ℕ, ◌≤◌, ◌<◌, ◌^◌, Bool, true, false, List, [], ◌∷◌, length, refl, sym, ap, subst, arith, Option, Some, None, Result, Ok, Err, encode_utf8_all, nat_le, ◌&&◌, if◌then◌else◌, not, ◌==◌, list_all, and_parts, and_from, nat_tests, is_ascii, ascii-same, split, is_ascii_digit}
use Rattle.std.specs.Int.{IsInRange}
use Rattle.std.specs.Result.{OkIff}
use Rattle.std.specs.Str.Parse.{ParsesUnsigned, digits_value}
use Rattle.std.proofs.lemmas.Str.Parse.{IsDigitsTest, numerals_by_value, parse_digits}
use Rattle.rx_job.specs.Words.{count_of, is_positive_number, most_items}
use Rattle.rx_terms.specs.Ascii.{digit_zero}

digit_ascii : (c : ℕ) → is_ascii_digit c ≡ true → is_ascii c ≡ true
digit_ascii c e = grind (arith, nat_tests)

digit_from : (c : ℕ) → is_ascii_digit c ≡ true → IsInRange 48 57 c
digit_from c e = (grind (arith, nat_tests), grind (arith, nat_tests))

digit_of : (c : ℕ) → 48 ≤ c → c ≤ 57 → is_ascii_digit c ≡ true
digit_of c l k = grind (arith, nat_tests)

digits_ascii : (word : List ℕ) → list_all is_ascii_digit word ≡ true → list_all is_ascii word ≡ true
digits_ascii [] e = refl
digits_ascii (c ∷ word) e = let p = and_parts _ _ e in and_from _ _ (digit_ascii c p.0) (digits_ascii word p.1)

pub tells : IsDigitsTest (λ ds. list_all is_ascii_digit ds ≡ true)
tells = record {
  empty = refl;
  parts = λ c cs e. let p = and_parts _ _ e in (digit_from c p.0, p.1);
  more = λ c cs k e. and_from _ _ (digit_of c k.0 k.1) e;
}

digits_in : (word : List ℕ) → is_positive_number word ≡ true → list_all is_ascii_digit word ≡ true
digits_in [] e = absurd (cc)
digits_in (c ∷ word) e = (and_parts (not (c == digit_zero)) (list_all is_ascii_digit (c ∷ word)) e).1

some_in : (word : List ℕ) → is_positive_number word ≡ true → 0 < length word
some_in [] e = absurd (cc)
some_in (c ∷ word) e = omega arith

-- the bytes of a number are its characters
same_bytes : (word bytes : List ℕ) → bytes ≡ encode_utf8_all word → is_positive_number word ≡ true → bytes ≡ word
same_bytes word bytes b e = b ∙ (ascii-same word (digits_ascii word (digits_in word e))).0

parses : {E : Type 0} (word bytes : List ℕ) (r : Result ℕ E) → bytes ≡ encode_utf8_all word → is_positive_number word ≡ true → ParsesUnsigned 32 10 bytes r → OkIff r ((0 < length word) × (digits_value 10 word < 2 ^ 32)) (digits_value 10 word)
parses word bytes r b e h = parse_digits (numerals_by_value (λ ds. list_all is_ascii_digit ds ≡ true) tells) 32 word r (subst (λ x. ParsesUnsigned 32 10 x r) (same_bytes word bytes b e) h) (digits_in word e)

abbrev if_small : Bool → ℕ → Option ℕ
if_small number n = if number && nat_le n most_items then Some n else None

small : (n : ℕ) → n ≤ 100000 → nat_le n 100000 ≡ true
small n l = grind (arith, nat_tests)

large : (n : ℕ) → 100000 < n → nat_le n 100000 ≡ false
large n l = grind (arith, nat_tests)

count_small : (word : List ℕ) (n : ℕ) → is_positive_number word ≡ true → digits_value 10 word ≡ n → n ≤ 100000 → count_of word ≡ Some n
count_small word n e v l = ap (λ b. if_small b (digits_value 10 word)) e ∙ (ap (λ m. if_small true m) v ∙ ap (λ b. if b then Some n else None) (small n l))

count_large : (word : List ℕ) (n : ℕ) → is_positive_number word ≡ true → digits_value 10 word ≡ n → 100000 < n → count_of word ≡ None
count_large word n e v l = ap (λ b. if_small b (digits_value 10 word)) e ∙ (ap (λ m. if_small true m) v ∙ ap (λ b. if b then Some n else None) (large n l))

pub is_count : (E : Type 0) (word bytes : List ℕ) (n : ℕ) → bytes ≡ encode_utf8_all word → is_positive_number word ≡ true → ParsesUnsigned {E = E} 32 10 bytes (Ok n) → n ≤ 100000 → Some n ≡ count_of word
is_count E word bytes n b e h l = let p = parses {E = E} word bytes (Ok n) b e h in sym (count_small word n e (sym p.1) l)

pub is_past : (E : Type 0) (word bytes : List ℕ) (n : ℕ) → bytes ≡ encode_utf8_all word → is_positive_number word ≡ true → ParsesUnsigned {E = E} 32 10 bytes (Ok n) → 100000 < n → None ≡ count_of word
is_past E word bytes n b e h l = let p = parses {E = E} word bytes (Ok n) b e h in sym (count_large word n e (sym p.1) l)

pub is_too_long : {E : Type 0} (word bytes : List ℕ) (why : E) → bytes ≡ encode_utf8_all word → is_positive_number word ≡ true → ParsesUnsigned 32 10 bytes (Err why) → None ≡ count_of word
is_too_long word bytes why b e h =
    let p = parses word bytes (Err why) b e h in
    sym (count_large word (digits_value 10 word) e refl (past (digits_value 10 word) (λ l. p (some_in word e, l))))
  where
    past : (n : ℕ) → (n < 2 ^ 32 → ⊥) → 100000 < n
    past n l = omega arith

small_one : (n : ℕ) → nat_le n 100000 ≡ true → n ≤ 100000
small_one n t = grind (arith, nat_tests)

-- a number that is read isn't too large
pub few_counted : (word : List ℕ) (count : ℕ) → count_of word ≡ Some count → count ≤ most_items
few_counted word count e = split (λ (found : Option ℕ). found ≡ Some count → count ≤ most_items) (is_positive_number word && nat_le (digits_value 10 word) most_items) (Some (digits_value 10 word)) None (λ t k. few t k) (λ f k. absurd (cc)) e
  where
    few : (is_positive_number word && nat_le (digits_value 10 word) most_items) ≡ true → ◌≡◌ {A = Option ℕ} (Some (digits_value 10 word)) (Some count) → count ≤ most_items
    few t k = let same : digits_value 10 word ≡ count = (cc) in omega (arith, same, small_one (digits_value 10 word) (and_parts (is_positive_number word) (nat_le (digits_value 10 word) most_items) t).1)
