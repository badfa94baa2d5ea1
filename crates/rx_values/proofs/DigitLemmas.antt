-- The digits at the front of a text, as std cuts them.
use Rattle.rx_terms.proofs.Common.{◌≡◌, ℕ, suc, ◌-◌, ◌≤◌, Bool, true, false, List, [], ◌∷◌, length, take, drop, refl, ap, arith, take_all, is_digit, take_while, take_while-cons}
use native.Mathlib.Numerals.{unary_clauses}
use Rattle.rx_rdfa.specs.Times.{digits, after_digits}

pub record DigitsTo (text : List ℕ) (count : ℕ) (digits_are rest_is : List ℕ) : Type 0 where
  pub within : count ≤ length text
  pub front : take count text ≡ digits_are
  pub rest : take (length text - count) (drop count text) ≡ rest_is

abbrev pub DigitsAt : List ℕ → ℕ → Type 0
DigitsAt text count = DigitsTo text count (digits text) (after_digits text)

yes_digit : (c : ℕ) (text : List ℕ) → is_digit c ≡ true → (digits (c ∷ text) ≡ c ∷ digits text) × (after_digits (c ∷ text) ≡ after_digits text)
yes_digit c text e = (rw e refl, rw e refl)

no_digit : (c : ℕ) (text : List ℕ) → is_digit c ≡ false → (digits (c ∷ text) ≡ []) × (after_digits (c ∷ text) ≡ c ∷ text)
no_digit c text e = (rw e refl, rw e refl)

longer : (c : ℕ) (text front rest : List ℕ) (count : ℕ) → count ≤ length text → take count text ≡ front → take (length text - count) (drop count text) ≡ rest
    → DigitsTo (c ∷ text) (suc count) (c ∷ front) rest
longer c text front rest count h e f = record { within = omega arith; front = ap (λ (x : List ℕ). c ∷ x) e; rest = simp unary_clauses f }

stands : (text ds rest : List ℕ) → digits text ≡ ds → after_digits text ≡ rest → DigitsTo text (length ds) ds rest → DigitsAt text (length (digits text))
stands text ds rest e f h = rw (e, f) h

one_more : (c : ℕ) (text : List ℕ) (b : Bool) → is_digit c ≡ b → DigitsAt text (length (digits text)) → DigitsAt (c ∷ text) (length (digits (c ∷ text)))
one_more c text true e more =
    let y = yes_digit c text e in
    stands _ _ _ y.0 y.1 (longer c text (digits text) (after_digits text) (length (digits text)) more.within more.front more.rest)
one_more c text false e more =
    let n = no_digit c text e in
    let whole : DigitsTo (c ∷ text) 0 [] (c ∷ text) = record { within = omega arith; front = refl; rest = take_all _ (c ∷ text) (omega arith) } in
    stands _ _ _ n.0 n.1 whole

counted : (text : List ℕ) → DigitsAt text (length (digits text))
counted [] = record { within = omega arith; front = refl; rest = refl }
counted (c ∷ text) = one_more c text (is_digit c) refl (counted text)

is_while : (text : List ℕ) → take_while is_digit text ≡ digits text
is_while [] = refl
is_while (c ∷ text) = rw (take_while-cons is_digit c text, is_while text) refl

pub digits_at : (text : List ℕ) (count : ℕ) → count ≡ length (take_while is_digit text) → DigitsAt text count
digits_at text count e = rw (e, is_while text) (counted text)
