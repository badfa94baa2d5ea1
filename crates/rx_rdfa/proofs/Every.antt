-- What all of a list have, and all entries of an element.
use Rattle.rx_rdfa.proofs.Common.{Bool, cond, List, [], ◌∷◌, ◌++◌, map, flat_map, filter_map, Option, Some, None, subst, inl, inr, split, Chars, Among, Node, Term, Resource, Among_cases, Among_of_map, Among_of_filter_map, Among_of_flat_map, Naming, Hanging, Resources, Standing, listed, hangs, own_owner, ListEntry, entry, linked, touched, valued, awaited, entries_by}

module _ {A : Type 0} (P : A → Type 0) where
  abbrev pub All : List A → Type 0
  All list = (a : A) → Among list a → P a

  -- what is there has it
  abbrev pub IfThere : Option A → Type 0
  IfThere None = Unit {0}
  IfThere (Some a) = P a

  pub all_none : All []
  all_none a h = absurd h

  pub all_more : (x : A) (xs : List A) → P x → All xs → All (x ∷ xs)
  all_more x xs p q a (inl e) = subst P e p
  all_more x xs p q a (inr h) = q a h

  pub all_both : (xs ys : List A) → All xs → All ys → All (xs ++ ys)
  all_both xs ys p q a h = elim (Among_cases xs ys a h) [ inl k ↦ p a k | inr k ↦ q a k ]

  pub all_if : (b : Bool) (xs : List A) → All xs → All (cond b xs [])
  all_if b xs p = split All b xs [] (λ _. p) (λ _. all_none)

  pub all_unless : (b : Bool) (xs : List A) → All xs → All (cond b [] xs)
  all_unless b xs p = split All b [] xs (λ _. all_none) (λ _. p)

  module _ {X : Type 0} where
    pub all_mapped : (f : X → A) (xs : List X) → ((x : X) → Among xs x → P (f x)) → All (map f xs)
    all_mapped f xs p a h = let r = Among_of_map f xs a h in subst P r.2 (p r.0 r.1)

    pub all_kept : (f : X → Option A) (xs : List X) → ((x : X) → Among xs x → IfThere (f x)) → All (filter_map f xs)
    all_kept f xs p a h = let r = Among_of_filter_map f xs a h in subst IfThere r.2 (p r.0 r.1)

    pub all_flat : (f : X → List A) (xs : List X) → ((x : X) → Among xs x → All (f x)) → All (flat_map f xs)
    all_flat f xs p a h = let r = Among_of_flat_map f xs a h in p r.0 r.1 a r.2

-- P holds of all entries of an element, where it holds of those of rel, of property, and of what hangs
module _ {B O T : Type 0} (P : ListEntry O T → Type 0) (n : Naming B O) (full : Term B → T) (v : T) (at : Standing B O) (here : Resources B) where
  linked_all : (o : Option (Node B)) → ((object : Node B) (p : Chars) → P (entry (own_owner n at here) (Some (full (Resource object))) p)) → All P (linked n full v at here o)
  linked_all None k = all_none P
  linked_all (Some object) k = all_mapped P (entry (own_owner n at here) (Some (full (Resource object)))) (listed at.facts.rel) (λ p m. k object p)

  pub entries_all : ((object : Node B) (p : Chars) → P (entry (own_owner n at here) (Some (full (Resource object))) p)) → ((p : Chars) → P (entry (own_owner n at here) None p)) → ((p : Chars) → P (entry (own_owner n at here) (Some v) p))
      → ((h : Hanging O) → Among at.around.hanging h → IfThere P (awaited n full v at here h)) → All P (entries_by n full v at here)
  entries_all of_object of_none of_value of_hanging =
      let l : List (ListEntry O T) = linked n full v at here here.object in
      let t : List (ListEntry O T) = touched n full v at here in
      let w : List (ListEntry O T) = valued n full v at here in
      let ends : List (ListEntry O T) = filter_map (awaited n full v at here) at.around.hanging in
      all_unless P here.skipped (cond at.facts.inlist (l ++ t ++ w) [] ++ ends)
      (all_both P (cond at.facts.inlist (l ++ t ++ w) []) ends
      (all_if P at.facts.inlist (l ++ t ++ w)
      (all_both P (l ++ t) w
      (all_both P l t (linked_all here.object of_object)
      (all_if P (hangs at.facts here) (map (entry (own_owner n at here) None) (listed at.facts.rel)) (all_mapped P (entry (own_owner n at here) None) (listed at.facts.rel) (λ p m. of_none p))))
      (all_mapped P (entry (own_owner n at here) (Some v)) (listed at.facts.property) (λ p m. of_value p))))
      (all_kept P (awaited n full v at here) at.around.hanging of_hanging))
