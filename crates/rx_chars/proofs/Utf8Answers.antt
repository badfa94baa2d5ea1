-- What a byte answers, by the bytes before it.
use Rattle.std.proofs.Common.{◌≡◌, ◌≤◌, ◌<◌, ℕ, ◌+◌, ◌-◌, ◌*◌, Bool, true, false, ◌&&◌, List, [], ◌∷◌, sym, ap, ◌∙◌, if◌then◌else◌, arith}
use Rattle.std.proofs.lemmas.Bool.Decides.{nat_tests}
use Rattle.rx_chars.specs.Utf8.{is_well_formed, begins_sequence, scalar_value, answer_of, is_in, tail}
use Rattle.rx_chars.specs.Held.{fits_second}
use Rattle.rx_chars.specs.declared.utf8.Utf8Step.TheVariants.{More, Char, Bad}
use Rattle.rx_chars.proofs.Utf8Rows.{whole_one, whole_two, whole_three, whole_four, begun_one, begun_two, begun_three, begun_more}
use Rattle.std.proofs.Math.Bool.{and-false}

-- the tables' three cases
pub at_whole : (bytes : List ℕ) → is_well_formed bytes ≡ true → Char (scalar_value bytes) ≡ answer_of bytes
at_whole bytes whole = sym (ap (λ w. if w then Char (scalar_value bytes) else if begins_sequence bytes then More else Bad) whole)

pub at_begun : (bytes : List ℕ) → is_well_formed bytes ≡ false → begins_sequence bytes ≡ true → More ≡ answer_of bytes
at_begun bytes whole begun =
    sym (ap (λ w. if w then Char (scalar_value bytes) else if begins_sequence bytes then More else Bad) whole ∙ ap (λ b. if b then More else Bad) begun)

pub at_none : (bytes : List ℕ) → is_well_formed bytes ≡ false → begins_sequence bytes ≡ false → Bad ≡ answer_of bytes
at_none bytes whole begun =
    sym (ap (λ w. if w then Char (scalar_value bytes) else if begins_sequence bytes then More else Bad) whole ∙ ap (λ b. if b then More else Bad) begun)

-- one byte
pub first_whole : (a : ℕ) → a ≤ 0x7F → Char a ≡ answer_of (a ∷ [])
first_whole a low = at_whole (a ∷ []) (whole_one a ∙ grind (arith, nat_tests))

pub first_begun : (a : ℕ) → 0xC2 ≤ a → a ≤ 0xF4 → More ≡ answer_of (a ∷ [])
first_begun a low high = at_begun (a ∷ []) (whole_one a ∙ grind (arith, nat_tests)) (begun_one a ∙ grind (arith, nat_tests))

pub first_none : (a : ℕ) → 0x7F < a → (is_in (0xC2, 0xF4) a ≡ false) → Bad ≡ answer_of (a ∷ [])
first_none a low other = at_none (a ∷ []) (whole_one a ∙ grind (arith, nat_tests)) (begun_one a ∙ other)

-- two bytes
pub second_none : (a b : ℕ) → begins_sequence (a ∷ []) ≡ true → fits_second a b ≡ false → Bad ≡ answer_of (a ∷ b ∷ [])
second_none a b begun unfit =
    let first : is_in (0xC2, 0xF4) a ≡ true = sym (begun_one a) ∙ begun in
    at_none (a ∷ b ∷ []) (whole_two a b ∙ grind (arith, nat_tests)) (begun_two a b ∙ grind (arith, nat_tests))

pub second_whole : (a b : ℕ) → begins_sequence (a ∷ []) ≡ true → fits_second a b ≡ true → a < 0xE0 → Char ((a - 0xC0) * 64 + (b - 0x80)) ≡ answer_of (a ∷ b ∷ [])
second_whole a b begun fit low =
    let first : is_in (0xC2, 0xF4) a ≡ true = sym (begun_one a) ∙ begun in
    at_whole (a ∷ b ∷ []) (whole_two a b ∙ grind (arith, nat_tests))

pub second_begun : (a b : ℕ) → begins_sequence (a ∷ []) ≡ true → fits_second a b ≡ true → 0xE0 ≤ a → More ≡ answer_of (a ∷ b ∷ [])
second_begun a b begun fit low =
    let first : is_in (0xC2, 0xF4) a ≡ true = sym (begun_one a) ∙ begun in
    at_begun (a ∷ b ∷ []) (whole_two a b ∙ grind (arith, nat_tests)) (begun_two a b ∙ grind (arith, nat_tests))

-- three bytes
pub third_none : (a b c : ℕ) → is_in tail c ≡ false → Bad ≡ answer_of (a ∷ b ∷ c ∷ [])
third_none a b c unfit =
    at_none (a ∷ b ∷ c ∷ []) (whole_three a b c ∙ simp (unfit, and-false)) (begun_three a b c ∙ simp (unfit, and-false))

pub third_whole : (a b c : ℕ) → begins_sequence (a ∷ b ∷ []) ≡ true → is_in tail c ≡ true → a < 0xF0
    → Char (((a - 0xE0) * 64 + (b - 0x80)) * 64 + (c - 0x80)) ≡ answer_of (a ∷ b ∷ c ∷ [])
third_whole a b c begun fit low =
    let front : (is_in (0xE0, 0xF4) a && fits_second a b) ≡ true = sym (begun_two a b) ∙ begun in
    at_whole (a ∷ b ∷ c ∷ []) (whole_three a b c ∙ whole3 a (fits_second a b) (is_in tail c) front fit low)
  where
    whole3 : (a : ℕ) (s t : Bool) → (is_in (0xE0, 0xF4) a && s) ≡ true → t ≡ true → a < 0xF0 → (is_in (0xE0, 0xEF) a && (s && t)) ≡ true
    whole3 a s t front fit low = grind (arith, nat_tests)

pub third_begun : (a b c : ℕ) → begins_sequence (a ∷ b ∷ []) ≡ true → is_in tail c ≡ true → 0xF0 ≤ a → More ≡ answer_of (a ∷ b ∷ c ∷ [])
third_begun a b c begun fit low =
    let front : (is_in (0xE0, 0xF4) a && fits_second a b) ≡ true = sym (begun_two a b) ∙ begun in
    at_begun (a ∷ b ∷ c ∷ []) (whole_three a b c ∙ whole3 a (fits_second a b) (is_in tail c) low) (begun_three a b c ∙ begun3 a (fits_second a b) (is_in tail c) front fit low)
  where
    whole3 : (a : ℕ) (s t : Bool) → 0xF0 ≤ a → (is_in (0xE0, 0xEF) a && (s && t)) ≡ false
    whole3 a s t low = grind (arith, nat_tests)

    begun3 : (a : ℕ) (s t : Bool) → (is_in (0xE0, 0xF4) a && s) ≡ true → t ≡ true → 0xF0 ≤ a → (is_in (0xF0, 0xF4) a && (s && t)) ≡ true
    begun3 a s t front fit low = grind (arith, nat_tests)

-- four bytes
pub fourth_none : (a b c d : ℕ) → is_in tail d ≡ false → Bad ≡ answer_of (a ∷ b ∷ c ∷ d ∷ [])
fourth_none a b c d unfit =
    at_none (a ∷ b ∷ c ∷ d ∷ []) (whole_four a b c d ∙ simp (unfit, and-false)) (begun_more a b c d [])

pub fourth_whole : (a b c d : ℕ) → begins_sequence (a ∷ b ∷ c ∷ []) ≡ true → is_in tail d ≡ true
    → Char ((((a - 0xF0) * 64 + (b - 0x80)) * 64 + (c - 0x80)) * 64 + (d - 0x80)) ≡ answer_of (a ∷ b ∷ c ∷ d ∷ [])
fourth_whole a b c d begun fit =
    let front : (is_in (0xF0, 0xF4) a && (fits_second a b && is_in tail c)) ≡ true = sym (begun_three a b c) ∙ begun in
    at_whole (a ∷ b ∷ c ∷ d ∷ []) (whole_four a b c d ∙ whole4 (is_in (0xF0, 0xF4) a) (fits_second a b) (is_in tail c) (is_in tail d) front fit)
  where
    whole4 : (r s t u : Bool) → (r && (s && t)) ≡ true → u ≡ true → (r && (s && (t && u))) ≡ true
    whole4 r s t u front fit = grind (arith, nat_tests)
