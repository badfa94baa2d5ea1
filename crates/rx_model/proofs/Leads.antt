-- Where pairs lead.
use Rattle.rx_terms.proofs.Common.{◌≡◌, ◌⊎◌, Bool, true, ◌&&◌, List, [], ◌∷◌, refl, ◌∙◌, subst, inl, inr, and_from}
use Rattle.rx_model.specs.Sets.{Among, IsExact}
use Rattle.rx_model.specs.Copied.{PairsLead, here, onward, leads, LeadsAlong}
use Rattle.rx_model.proofs.Sets.{or_cases, or_left, or_right, and_left, and_right}

module _ {A : Type 0} (same : A → A → Bool) (exact : IsExact same) where
  pub leads_self : (es : List (A × A)) (a : A) → leads same es a a ≡ true
  leads_self [] a = (exact a a).1 refl
  leads_self (e ∷ es) a = or_left (leads same es a a) (leads same es a e.0 && leads same es e.1 a) (leads_self es a)

  -- through e, which isn't one of the others
  Via : List (A × A) → A × A → A → A → Type 0
  Via es e a b = (leads same es a e.0 ≡ true) × (leads same es e.1 b ≡ true)

  leads_cases : (e : A × A) (es : List (A × A)) (a b : A) → leads same (e ∷ es) a b ≡ true → (leads same es a b ≡ true) ⊎ Via es e a b
  unfolding Via
  leads_cases e es a b h = elim (or_cases (leads same es a b) (leads same es a e.0 && leads same es e.1 b) h)
      [ inl k ↦ inl k | inr k ↦ inr (and_left (leads same es a e.0) (leads same es e.1 b) k, and_right (leads same es a e.0) (leads same es e.1 b) k) ]

  leads_via : (e : A × A) (es : List (A × A)) (a b : A) → leads same es a e.0 ≡ true → leads same es e.1 b ≡ true → leads same (e ∷ es) a b ≡ true
  leads_via e es a b h k = or_right (leads same es a b) (leads same es a e.0 && leads same es e.1 b) (and_from (leads same es a e.0) (leads same es e.1 b) h k)

  leads_more : (e : A × A) (es : List (A × A)) (a b : A) → leads same es a b ≡ true → leads same (e ∷ es) a b ≡ true
  leads_more e es a b h = or_left (leads same es a b) (leads same es a e.0 && leads same es e.1 b) h

  pub leads_on : (es : List (A × A)) (a b c : A) → leads same es a b ≡ true → leads same es b c ≡ true → leads same es a c ≡ true
  unfolding Via
  leads_on [] a b c h k = (exact a c).1 ((exact a b).0 h ∙ (exact b c).0 k)
  leads_on (e ∷ es) a b c h k = elim (leads_cases e es a b h) [
    | inl h' ↦ elim (leads_cases e es b c k) [
      | inl k' ↦ leads_more e es a c (leads_on es a b c h' k')
      | inr v ↦ leads_via e es a c (leads_on es a b e.0 h' v.0) v.1
    ]
    | inr w ↦ elim (leads_cases e es b c k) [
      | inl k' ↦ leads_via e es a c w.0 (leads_on es e.1 b c w.1 k')
      | inr v ↦ leads_via e es a c w.0 v.1
    ]
  ]

  pub leads_pair : (es : List (A × A)) (a b : A) → Among es (a, b) → leads same es a b ≡ true
  leads_pair [] a b h = absurd h
  leads_pair (e ∷ es) a b (inl q) = leads_via e es a b (rw q (leads_self es a)) (rw q (leads_self es b))
  leads_pair (e ∷ es) a b (inr h) = leads_more e es a b (leads_pair es a b h)

  -- what holds of a and goes over from pair to pair holds of what they lead to
  pub leads_keep : (P : A → Type 0) (es : List (A × A)) → ((e : A × A) → Among es e → P e.0 → P e.1) → (a b : A) → leads same es a b ≡ true → P a → P b
  unfolding Via
  leads_keep P [] step a b h p = subst P ((exact a b).0 h) p
  leads_keep P (e ∷ es) step a b h p =
      let on : (c d : A) → leads same es c d ≡ true → P c → P d = λ c d. leads_keep P es (λ f m. step f (inr m)) c d in
      elim (leads_cases e es a b h) [ inl k ↦ on a b k p | inr v ↦ on e.1 b v.1 (step e (inl refl) (on a e.0 v.0 p)) ]

  pub leads_by : (es : List (A × A)) (a b : A) → PairsLead es a b → leads same es a b ≡ true
  leads_by es a _ here = leads_self es a
  leads_by es a _ (onward b c h m) = leads_on es a b c (leads_by es a b h) (leads_pair es b c m)

  pub leads_along : LeadsAlong same
  leads_along es a b = (λ h. leads_keep (PairsLead es a) es (λ e m l. onward e.0 e.1 l m) a b h here, leads_by es a b)
