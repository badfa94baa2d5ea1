-- Numbers past the last code point may be cut down to the first one past it.
use Rattle.rx_grammar.proofs.Common.{◌≡◌, ◌∙◌, sym, refl, ℕ, ◌+◌, ◌*◌, ◌≤◌, ◌<◌, List, [], ◌∷◌, arith, inl, inr, ◌⊎◌, zero, suc, length, drop, get_or, number_from, digit_value}
use Rattle.rx_tags.specs.Numbers.{capped}
use Rattle.std.proofs.Math.Nat.{min-eq_left, min-eq_right, min-le_right}

times_more : (m base : ℕ) → 1 ≤ base → m ≤ m * base
times_more m (suc base) h = omega arith
times_more m zero h = absurd (omega arith)

pub stays_large : (base m : ℕ) (digits : List ℕ) → 1 ≤ base → 0x110000 ≤ m → 0x110000 ≤ number_from base m digits
stays_large base m [] h k = k
stays_large base m (d ∷ digits) h k = stays_large base (m * base + digit_value d) digits h (omega (arith, times_more m base h, k))

le_cases : (m n : ℕ) → (m ≤ n) ⊎ (n ≤ m)
le_cases zero n = inl (omega arith)
le_cases (suc m) zero = inr (omega arith)
le_cases (suc m) (suc n) = elim (le_cases m n) [ inl h ↦ inl (omega arith) | inr h ↦ inr (omega arith) ]

capped_small : (n : ℕ) → n ≤ 0x110000 → capped n ≡ n
capped_small n h = min-eq_left h

capped_large : (n : ℕ) → 0x110000 ≤ n → capped n ≡ 0x110000
capped_large n h = min-eq_right h

pub capped_on : (base m : ℕ) (digits : List ℕ) → 1 ≤ base → capped (number_from base (capped m) digits) ≡ capped (number_from base m digits)
capped_on base m digits h =
    elim (le_cases m 0x110000) [
      | inl k ↦ rw (capped_small m k) refl
      | inr k ↦ rw (capped_large m k) (capped_large _ (stays_large base 0x110000 digits h (omega arith)) ∙ sym (capped_large _ (stays_large base m digits h k)))
    ]

drop_next : (digits : List ℕ) (i d : ℕ) → i < length digits → drop i digits ≡ get_or digits i d ∷ drop (i + 1) digits
drop_next [] i d h = absurd (omega arith)
drop_next (x ∷ digits) zero d h = refl
drop_next (x ∷ digits) (suc i) d h = let e : suc i + 1 ≡ suc (i + 1) = omega arith in rw e (drop_next digits i d (omega arith))

pub number_step : (base number i other value next : ℕ) (digits : List ℕ) → 1 ≤ base → i < length digits → value ≡ digit_value (get_or digits i other) → next ≡ capped (number * base + value)
    → (next ≤ 0x110000) × (capped (number_from base number (drop i digits)) ≡ capped (number_from base next (drop (i + 1) digits)))
number_step base number i other value next digits h k v n =
    (rw n (min-le_right _ 0x110000), rw (drop_next digits i other k, n, v) (sym (capped_on base (number * base + digit_value (get_or digits i other)) (drop (i + 1) digits) h)))
