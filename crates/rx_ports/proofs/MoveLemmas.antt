-- Steps of what is told, one after another.
use Rattle.std.proofs.Common.{◌≡◌, ◌∙◌, ap, subst, refl, true, Option, Some, None, is_some}
use Rattle.rx_ports.specs.Shelves.{WhereKnown}

-- a step that every value may take to itself
pub moves_same : {A : Type 0} (step : A → A → Type 0) → ((x : A) → step x x) → (o : Option A) → WhereKnown step o o
moves_same {A} step same o = record {
  same = refl;
  taken = λ x y p q. let f : x ≡ y = (cc) in subst (step x) f (same x);
}

-- what is told
told_value : {A : Type 0} (o : Option A) → is_some o ≡ true → (y : A) × (o ≡ Some y)
told_value None e = absurd (cc)
told_value (Some y) e = (y, refl)

pub moves_then : {A : Type 0} {first second : A → A → Type 0} {a b c : Option A} (both : A → A → Type 0)
    → ((x y z : A) → first x y → second y z → both x z) → WhereKnown first a b → WhereKnown second b c → WhereKnown both a c
moves_then {b = b} both join f s = record {
  same = s.same ∙ f.same;
  taken = λ x z p q.
      let some : is_some b ≡ true = f.same ∙ ap is_some p in
      let y = told_value b some in
      join x y.0 z (f.taken x y.0 p y.1) (s.taken y.0 z y.1 q);
}

pub moves_some : {A : Type 0} (step : A → A → Type 0) (x y : A) → step x y → WhereKnown step (Some x) (Some y)
moves_some {A} step x y s = record {
  same = refl;
  taken = λ a b p q. let e : x ≡ a = (cc) in let f : y ≡ b = (cc) in subst (λ c. step c b) e (subst (step x) f s);
}

pub moves_weaker : {A : Type 0} {first : A → A → Type 0} {a b : Option A} (other : A → A → Type 0) → ((x y : A) → first x y → other x y) → WhereKnown first a b → WhereKnown other a b
moves_weaker other f m = record { same = m.same; taken = λ x y p q. f x y (m.taken x y p q) }

-- what was told took a step
pub moves_at : {A : Type 0} {step : A → A → Type 0} {a b : Option A} (x : A) → WhereKnown step a b → a ≡ Some x → (y : A) × step x y
moves_at {b = b} x m e =
    let some : is_some b ≡ true = m.same ∙ ap is_some e in
    let y = told_value b some in
    (y.0, m.taken x y.0 e y.1)
