-- The scalar values of well-formed sequences, and the bounds of their bytes as facts on numbers.
use Rattle.std.proofs.Common.{◌≡◌, ◌≤◌, ◌<◌, ℕ, ◌+◌, ◌-◌, ◌*◌, true, ◌&&◌, ◌⊎◌, inl, inr, ⊎_elim, [], ◌∷◌, sym, ◌∙◌, arith}
use Rattle.std.proofs.lemmas.Bool.{cases_lt, and_parts}
use Rattle.std.proofs.lemmas.Bool.Decides.{nat_tests}
use Rattle.std.specs.Char.{IsScalar}
use Rattle.rx_chars.specs.Utf8.{is_well_formed, is_in, tail}
use Rattle.rx_chars.specs.Held.{fits_second}
use Rattle.rx_chars.proofs.Utf8Rows.{whole_two, whole_three, whole_four}

-- the second byte
pub record Second (a b : ℕ) : Type 0 where
  pub low : 0x80 ≤ b
  pub high : b ≤ 0xBF
  pub three_long : a ≡ 0xE0 → 0xA0 ≤ b
  pub no_surrogate : a ≡ 0xED → b ≤ 0x9F
  pub four_long : a ≡ 0xF0 → 0x90 ≤ b
  pub no_more : a ≡ 0xF4 → b ≤ 0x8F

second_of : (a b : ℕ) → fits_second a b ≡ true → Second a b
second_of a b fit = record {
  low = grind (arith, nat_tests);
  high = grind (arith, nat_tests);
  three_long = λ e. grind (arith, nat_tests);
  no_surrogate = λ e. grind (arith, nat_tests);
  four_long = λ e. grind (arith, nat_tests);
  no_more = λ e. grind (arith, nat_tests);
}

-- a byte between two others
pub record Within (low high b : ℕ) : Type 0 where
  pub from : low ≤ b
  pub to : b ≤ high

within_of : (low high b : ℕ) → is_in (low, high) b ≡ true → Within low high b
within_of low high b h = record { from = grind (arith, nat_tests); to = grind (arith, nat_tests) }

pub record Two (a b : ℕ) : Type 0 where
  pub lead : Within 0xC2 0xDF a
  pub second : Within 0x80 0xBF b

pub record Three (a b c : ℕ) : Type 0 where
  pub lead : Within 0xE0 0xEF a
  pub second : Second a b
  pub third : Within 0x80 0xBF c

pub record Four (a b c d : ℕ) : Type 0 where
  pub lead : Within 0xF0 0xF4 a
  pub second : Second a b
  pub third : Within 0x80 0xBF c
  pub fourth : Within 0x80 0xBF d

pub two_of : (a b : ℕ) → is_well_formed (a ∷ b ∷ []) ≡ true → Two a b
two_of a b whole =
    let parts = and_parts (is_in (0xC2, 0xDF) a) (is_in tail b) (sym (whole_two a b) ∙ whole) in
    record { lead = within_of 0xC2 0xDF a parts.0; second = within_of 0x80 0xBF b parts.1 }

pub three_of : (a b c : ℕ) → is_well_formed (a ∷ b ∷ c ∷ []) ≡ true → Three a b c
three_of a b c whole =
    let parts = and_parts (is_in (0xE0, 0xEF) a) (fits_second a b && is_in tail c) (sym (whole_three a b c) ∙ whole) in
    let inner = and_parts (fits_second a b) (is_in tail c) parts.1 in
    record { lead = within_of 0xE0 0xEF a parts.0; second = second_of a b inner.0; third = within_of 0x80 0xBF c inner.1 }

pub four_of : (a b c d : ℕ) → is_well_formed (a ∷ b ∷ c ∷ d ∷ []) ≡ true → Four a b c d
four_of a b c d whole =
    let parts = and_parts (is_in (0xF0, 0xF4) a) (fits_second a b && (is_in tail c && is_in tail d)) (sym (whole_four a b c d) ∙ whole) in
    let inner = and_parts (fits_second a b) (is_in tail c && is_in tail d) parts.1 in
    let last = and_parts (is_in tail c) (is_in tail d) inner.1 in
    record { lead = within_of 0xF0 0xF4 a parts.0; second = second_of a b inner.0; third = within_of 0x80 0xBF c last.0; fourth = within_of 0x80 0xBF d last.1 }

scalar_at : (v : ℕ) → v < 0x110000 → (v < 0xD800) ⊎ (0xDFFF < v) → IsScalar v
scalar_at v high gap = grind (arith, nat_tests)

pub two_scalar : (a b : ℕ) → Two a b → IsScalar ((a - 0xC0) * 64 + (b - 0x80))
two_scalar a b t = scalar_at ((a - 0xC0) * 64 + (b - 0x80)) (omega arith) (inl (omega arith))

pub three_scalar : (a b c : ℕ) → Three a b c → IsScalar (((a - 0xE0) * 64 + (b - 0x80)) * 64 + (c - 0x80))
three_scalar a b c t =
    scalar_at (((a - 0xE0) * 64 + (b - 0x80)) * 64 + (c - 0x80)) (omega arith)
    (⊎_elim (λ low. inl (omega arith)) (λ from. ⊎_elim (λ above. inr (omega arith)) (λ to. inl (below (omega arith))) (cases_lt 0xED a)) (cases_lt a 0xED))
  where
    below : a ≡ 0xED → ((a - 0xE0) * 64 + (b - 0x80)) * 64 + (c - 0x80) < 0xD800
    below at = let high : b ≤ 0x9F = t.second.no_surrogate at in omega arith

pub four_scalar : (a b c d : ℕ) → Four a b c d → IsScalar ((((a - 0xF0) * 64 + (b - 0x80)) * 64 + (c - 0x80)) * 64 + (d - 0x80))
four_scalar a b c d t =
    scalar_at ((((a - 0xF0) * 64 + (b - 0x80)) * 64 + (c - 0x80)) * 64 + (d - 0x80))
    (⊎_elim (λ low. omega arith) (λ from. below (omega arith)) (cases_lt a 0xF4))
    (inr (⊎_elim (λ low. omega arith) (λ to. above (omega arith)) (cases_lt 0xF0 a)))
  where
    below : a ≡ 0xF4 → (((a - 0xF0) * 64 + (b - 0x80)) * 64 + (c - 0x80)) * 64 + (d - 0x80) < 0x110000
    below at = let high : b ≤ 0x8F = t.second.no_more at in omega arith

    above : a ≡ 0xF0 → 0xDFFF < (((a - 0xF0) * 64 + (b - 0x80)) * 64 + (c - 0x80)) * 64 + (d - 0x80)
    above at = let low : 0x90 ≤ b = t.second.four_long at in omega arith
