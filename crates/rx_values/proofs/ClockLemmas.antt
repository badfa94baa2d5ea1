-- A fraction of any digits.
use Rattle.rx_rdfa.proofs.Common.{◌≡◌, ℕ, Bool, true, false, List, [], ◌∷◌, refl, not, ◌&&◌, if◌then◌else◌, Some, None, list_all, is_digit, is_empty, digits, after_digits, after_some_digits, after_fraction}

all_go : (c : ℕ) (text : List ℕ) (b : Bool) → is_digit c ≡ b → list_all is_digit (digits text) ≡ true → list_all is_digit (digits (c ∷ text)) ≡ true
all_go c text true e more = rw e (rw (e, more) refl)
all_go c text false e more = rw e refl

all_digits : (text : List ℕ) → list_all is_digit (digits text) ≡ true
all_digits [] = refl
all_digits (c ∷ text) = all_go c text (is_digit c) refl (all_digits text)

chosen : (e t : Bool) (rest : List ℕ) → t ≡ true
    → (if not e && t then Some rest else None) ≡ (if e then None else Some rest)
chosen true t rest h = refl
chosen false t rest h = rw h refl

pub any_fraction : (text : List ℕ) → after_fraction is_digit (46 ∷ text) ≡ after_some_digits text
any_fraction text = chosen (is_empty (digits text)) (list_all is_digit (digits text)) (after_digits text) (all_digits text)
