-- What tests that are joined say of their parts.
use Rattle.std.proofs.Common.{◌≡◌, Bool, true, false, cond, refl, inl, inr, ◌⊎◌}
use Rattle.std.specs.Prelude.{◌||◌, ◌&&◌, not}

pub both : (a b : Bool) → (a && b) ≡ true → (a ≡ true) × (b ≡ true)
both true true h = (refl, refl)
both true false h = absurd (cc)
both false b h = absurd (cc)

pub either : (a b : Bool) → (a || b) ≡ true → (a ≡ true) ⊎ (b ≡ true)
either true b h = inl refl
either false true h = inr refl
either false false h = absurd (cc)

pub untrue : (a : Bool) → not a ≡ true → a ≡ false
untrue true h = absurd (cc)
untrue false h = refl

pub not_both_ways : (b : Bool) → b ≡ true → b ≡ false → ⊥
not_both_ways true h k = cc
not_both_ways false h k = cc

-- a case by a test, with its equation
pub by_test : {G : Type 0} (b : Bool) → (b ≡ true → G) → (b ≡ false → G) → G
by_test true f g = f refl
by_test false f g = g refl

-- a choice by a test, in a hypothesis
pub split : {A : Type 0} (P : A → Type 0) (b : Bool) (x y : A) → (b ≡ true → P x) → (b ≡ false → P y) → P (cond b x y)
split P true x y f g = f refl
split P false x y f g = g refl

-- two tests that have one truth are the same
pub same_truth : (a b : Bool) → (a ≡ true → b ≡ true) → (b ≡ true → a ≡ true) → a ≡ b
same_truth true true f g = refl
same_truth true false f g = absurd (cc (f refl))
same_truth false true f g = absurd (cc (g refl))
same_truth false false f g = refl
