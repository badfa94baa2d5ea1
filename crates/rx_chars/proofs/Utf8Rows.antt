-- What the rows of well-formed UTF-8 say of one, two, three and four bytes.
use Rattle.std.proofs.Common.{◌≡◌, ℕ, Bool, false, ◌&&◌, ◌||◌, ◌==◌, List, [], ◌∷◌, if◌then◌else◌, arith}
use Rattle.std.proofs.lemmas.Bool.Decides.{nat_tests}
use Rattle.rx_chars.specs.Utf8.{is_well_formed, begins_sequence, is_in, tail}
use Rattle.rx_chars.specs.Held.{fits_second}
use Rattle.std.proofs.Math.Bool.{or-false, and-true, and-false}

-- the rows of three and of four bytes, each with what it asks of the bytes behind the first one
three_rows : (a : ℕ) (p q r s u t : Bool) →
    ((is_in (0xE0, 0xE0) a && (p && t)) || ((is_in (0xE1, 0xEC) a && (q && t)) || ((is_in (0xED, 0xED) a && (r && t)) || (is_in (0xEE, 0xEF) a && (q && t)))))
    ≡ (is_in (0xE0, 0xEF) a && ((if a == 0xE0 then p else if a == 0xED then r else if a == 0xF0 then s else if a == 0xF4 then u else q) && t))
three_rows a p q r s u t = grind (arith, nat_tests)

four_rows : (a : ℕ) (p q r s u t : Bool) →
    ((is_in (0xF0, 0xF0) a && (p && t)) || ((is_in (0xF1, 0xF3) a && (q && t)) || (is_in (0xF4, 0xF4) a && (r && t))))
    ≡ (is_in (0xF0, 0xF4) a && ((if a == 0xE0 then s else if a == 0xED then u else if a == 0xF0 then p else if a == 0xF4 then r else q) && t))
four_rows a p q r s u t = grind (arith, nat_tests)

all_rows : (a : ℕ) (p q r s t : Bool) →
    ((is_in (0xE0, 0xE0) a && p) || ((is_in (0xE1, 0xEC) a && q) || ((is_in (0xED, 0xED) a && r) || ((is_in (0xEE, 0xEF) a && q)
    || ((is_in (0xF0, 0xF0) a && s) || ((is_in (0xF1, 0xF3) a && q) || (is_in (0xF4, 0xF4) a && t)))))))
    ≡ (is_in (0xE0, 0xF4) a && (if a == 0xE0 then p else if a == 0xED then r else if a == 0xF0 then s else if a == 0xF4 then t else q))
all_rows a p q r s t = grind (arith, nat_tests)

pub whole_one : (a : ℕ) → is_well_formed (a ∷ []) ≡ is_in (0x00, 0x7F) a
whole_one a = simp (and-false, and-true, or-false)

pub whole_two : (a b : ℕ) → is_well_formed (a ∷ b ∷ []) ≡ (is_in (0xC2, 0xDF) a && is_in tail b)
whole_two a b = simp (and-false, and-true, or-false)

pub whole_three : (a b c : ℕ) → is_well_formed (a ∷ b ∷ c ∷ []) ≡ (is_in (0xE0, 0xEF) a && (fits_second a b && is_in tail c))
whole_three a b c =
    simp (and-false, and-true, or-false)
    (three_rows a (is_in (0xA0, 0xBF) b) (is_in tail b) (is_in (0x80, 0x9F) b) (is_in (0x90, 0xBF) b) (is_in (0x80, 0x8F) b) (is_in tail c))

pub whole_four : (a b c d : ℕ) → is_well_formed (a ∷ b ∷ c ∷ d ∷ []) ≡ (is_in (0xF0, 0xF4) a && (fits_second a b && (is_in tail c && is_in tail d)))
whole_four a b c d =
    simp (and-false, and-true, or-false)
    (four_rows a (is_in (0x90, 0xBF) b) (is_in tail b) (is_in (0x80, 0x8F) b) (is_in (0xA0, 0xBF) b) (is_in (0x80, 0x9F) b) (is_in tail c && is_in tail d))

pub whole_more : (a b c d e : ℕ) (bytes : List ℕ) → is_well_formed (a ∷ b ∷ c ∷ d ∷ e ∷ bytes) ≡ false
whole_more a b c d e bytes = simp (and-false, or-false)

pub begun_one : (a : ℕ) → begins_sequence (a ∷ []) ≡ is_in (0xC2, 0xF4) a
begun_one a = simp (and-false, and-true, or-false) (grind (arith, nat_tests))

pub begun_two : (a b : ℕ) → begins_sequence (a ∷ b ∷ []) ≡ (is_in (0xE0, 0xF4) a && fits_second a b)
begun_two a b =
    simp (and-false, and-true, or-false)
    (all_rows a (is_in (0xA0, 0xBF) b) (is_in tail b) (is_in (0x80, 0x9F) b) (is_in (0x90, 0xBF) b) (is_in (0x80, 0x8F) b))

pub begun_three : (a b c : ℕ) → begins_sequence (a ∷ b ∷ c ∷ []) ≡ (is_in (0xF0, 0xF4) a && (fits_second a b && is_in tail c))
begun_three a b c =
    simp (and-false, and-true, or-false)
    (four_rows a (is_in (0x90, 0xBF) b) (is_in tail b) (is_in (0x80, 0x8F) b) (is_in (0xA0, 0xBF) b) (is_in (0x80, 0x9F) b) (is_in tail c))

pub begun_more : (a b c d : ℕ) (bytes : List ℕ) → begins_sequence (a ∷ b ∷ c ∷ d ∷ bytes) ≡ false
begun_more a b c d bytes = simp (and-false, or-false)
