-- What an answer is, where there is one.
use Rattle.std.proofs.Common.{◌≡◌, ◌∙◌, Result, Ok, Err, IfOk, OnOk}

-- the same by an equal value
pub ok_is : {A E : Type 0} (r : Result A E) {a b : A} → a ≡ b → IfOk r (λ x. x ≡ a) → IfOk r (λ x. x ≡ b)
ok_is (Ok x) e h = h ∙ e
ok_is (Err x) e h = h

-- what follows from two facts of it
pub on_ok_both : {A E P Q R : Type 0} (r : Result A E) → (P → Q → R) → OnOk r P → OnOk r Q → OnOk r R
on_ok_both (Ok x) f p q = f p q
on_ok_both (Err e) f p q = tt
