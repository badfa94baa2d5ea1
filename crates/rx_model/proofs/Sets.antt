-- Elements of lists, and the words that make lists of lists.
use Rattle.rx_terms.proofs.Common.{◌≡◌, ◌⊎◌, Bool, true, false, not, cond, ◌&&◌, List, [], ◌∷◌, ◌++◌, map, filter, flat_map, filter_map, Option, Some, None, refl, sym, ap, ◌∙◌, subst, inl, inr, true≢false, cons_option, by_test, split}
pub use Rattle.std.proofs.lemmas.Bool.{or_left, or_right}
pub use Rattle.rx_terms.proofs.Bools.{either as or_cases}
use Rattle.rx_model.specs.Sets.{Among, IsExact, contains, distinct}

pub and_left : (a b : Bool) → (a && b) ≡ true → a ≡ true
and_left true b h = refl
and_left false b h = h

pub and_right : (a b : Bool) → (a && b) ≡ true → b ≡ true
and_right true b h = h
and_right false b h = absurd (true≢false (sym h))

pub false_unless : (a : Bool) → ¬ (a ≡ true) → a ≡ false
false_unless true h = absurd (h refl)
false_unless false h = refl

module _ {A : Type 0} where
  pub Among_left : (xs ys : List A) (a : A) → Among xs a → Among (xs ++ ys) a
  Among_left [] ys a h = absurd h
  Among_left (x ∷ xs) ys a (inl e) = inl e
  Among_left (x ∷ xs) ys a (inr h) = inr (Among_left xs ys a h)

  pub Among_right : (xs ys : List A) (a : A) → Among ys a → Among (xs ++ ys) a
  Among_right [] ys a h = h
  Among_right (x ∷ xs) ys a h = inr (Among_right xs ys a h)

  pub Among_cases : (xs ys : List A) (a : A) → Among (xs ++ ys) a → Among xs a ⊎ Among ys a
  Among_cases [] ys a h = inr h
  Among_cases (x ∷ xs) ys a (inl e) = inl (inl e)
  Among_cases (x ∷ xs) ys a (inr h) = elim (Among_cases xs ys a h) [ inl k ↦ inl (inr k) | inr k ↦ inr k ]

  pub under_cond : (b : Bool) (x : A) (xs : List A) (a : A) → Among xs a → Among (cond b (x ∷ xs) xs) a
  under_cond true x xs a h = inr h
  under_cond false x xs a h = h

  pub Among_filter : (p : A → Bool) (xs : List A) (a : A) → Among xs a → p a ≡ true → Among (filter p xs) a
  Among_filter p [] a h e = h
  Among_filter p (x ∷ xs) a (inl q) e = rw (ap p q ∙ e) (inl q)
  Among_filter p (x ∷ xs) a (inr h) e = under_cond (p x) x (filter p xs) a (Among_filter p xs a h e)

  pub Among_of_filter : (p : A → Bool) (xs : List A) (a : A) → Among (filter p xs) a → Among xs a × (p a ≡ true)
  Among_of_filter p [] a h = absurd h
  Among_of_filter p (x ∷ xs) a h = split (λ l. Among l a → Among (x ∷ xs) a × (p a ≡ true)) (p x) (x ∷ filter p xs) (filter p xs)
      (λ t m. elim m [ inl q ↦ (inl q, sym (ap p q) ∙ t) | inr k ↦ (let r = Among_of_filter p xs a k in (inr r.0, r.1)) ])
      (λ t k. let r = Among_of_filter p xs a k in (inr r.0, r.1)) h

  pub Among-contains : (same : A → A → Bool) → IsExact same → (xs : List A) (a : A) → Among xs a → contains same xs a ≡ true
  Among-contains same exact [] a h = absurd h
  Among-contains same exact (x ∷ xs) a (inl q) = or_left (same x a) (contains same xs a) ((exact x a).1 q)
  Among-contains same exact (x ∷ xs) a (inr h) = or_right (same x a) (contains same xs a) (Among-contains same exact xs a h)

  pub Among_by_contains : (same : A → A → Bool) → IsExact same → (xs : List A) (a : A) → contains same xs a ≡ true → Among xs a
  Among_by_contains same exact [] a h = absurd (true≢false (sym h))
  Among_by_contains same exact (x ∷ xs) a h = elim (or_cases (same x a) (contains same xs a) h) [ inl e ↦ inl ((exact x a).0 e) | inr k ↦ inr (Among_by_contains same exact xs a k) ]

  pub Among_of_distinct : (same : A → A → Bool) (xs : List A) (a : A) → Among (distinct same xs) a → Among xs a
  Among_of_distinct same [] a h = h
  Among_of_distinct same (x ∷ xs) a (inl q) = inl q
  Among_of_distinct same (x ∷ xs) a (inr h) = inr (Among_of_distinct same xs a (Among_of_filter (λ y. not (same x y)) (distinct same xs) a h).0)

  pub Among_distinct : (same : A → A → Bool) → IsExact same → (xs : List A) (a : A) → Among xs a → Among (distinct same xs) a
  Among_distinct same exact [] a h = h
  Among_distinct same exact (x ∷ xs) a (inl q) = inl q
  Among_distinct same exact (x ∷ xs) a (inr h) = by_test (same x a) (λ t. inl ((exact x a).0 t))
      (λ t. inr (Among_filter (λ y. not (same x y)) (distinct same xs) a (Among_distinct same exact xs a h) (ap not t)))

pub under_option : {B : Type 0} (o : Option B) (ys : List B) (b : B) → Among ys b → Among (cons_option o ys) b
under_option None ys b h = h
under_option (Some y) ys b h = inr h

module _ {A B : Type 0} where
  pub Among_map : (f : A → B) (xs : List A) (a : A) → Among xs a → Among (map f xs) (f a)
  Among_map f [] a h = absurd h
  Among_map f (x ∷ xs) a (inl q) = inl (ap f q)
  Among_map f (x ∷ xs) a (inr h) = inr (Among_map f xs a h)

  pub Among_of_map : (f : A → B) (xs : List A) (b : B) → Among (map f xs) b → (a : A) × Among xs a × (f a ≡ b)
  Among_of_map f [] b h = absurd h
  Among_of_map f (x ∷ xs) b (inl q) = (x, inl refl, q)
  Among_of_map f (x ∷ xs) b (inr h) = let k = Among_of_map f xs b h in (k.0, inr k.1, k.2)

  pub Among_flat_map : (f : A → List B) (xs : List A) (a : A) (b : B) → Among xs a → Among (f a) b → Among (flat_map f xs) b
  Among_flat_map f [] a b h k = absurd h
  Among_flat_map f (x ∷ xs) a b (inl q) k = Among_left (f x) (flat_map f xs) b (subst (λ z. Among (f z) b) (sym q) k)
  Among_flat_map f (x ∷ xs) a b (inr h) k = Among_right (f x) (flat_map f xs) b (Among_flat_map f xs a b h k)

  pub Among_of_flat_map : (f : A → List B) (xs : List A) (b : B) → Among (flat_map f xs) b → (a : A) × Among xs a × Among (f a) b
  Among_of_flat_map f [] b h = absurd h
  Among_of_flat_map f (x ∷ xs) b h = elim (Among_cases (f x) (flat_map f xs) b h) [
    | inl k ↦ (x, inl refl, k)
    | inr k ↦ (let r = Among_of_flat_map f xs b k in (r.0, inr r.1, r.2))
  ]

  pub Among_filter_map : (f : A → Option B) (xs : List A) (a : A) (b : B) → Among xs a → f a ≡ Some b → Among (filter_map f xs) b
  Among_filter_map f [] a b h e = absurd h
  Among_filter_map f (x ∷ xs) a b (inl q) e = rw (ap f q ∙ e) (inl refl)
  Among_filter_map f (x ∷ xs) a b (inr h) e = under_option (f x) (filter_map f xs) b (Among_filter_map f xs a b h e)

  pub Among_of_filter_map : (f : A → Option B) (xs : List A) (b : B) → Among (filter_map f xs) b → (a : A) × Among xs a × (f a ≡ Some b)
  Among_of_filter_map f [] b h = absurd h
  Among_of_filter_map f (x ∷ xs) b h = go (f x) refl h (Among_of_filter_map f xs b)
    where
      go : (o : Option B) → f x ≡ o → Among (cons_option o (filter_map f xs)) b → (Among (filter_map f xs) b → (a : A) × Among xs a × (f a ≡ Some b)) → (a : A) × Among (x ∷ xs) a × (f a ≡ Some b)
      go None e k ih = let r = ih k in (r.0, inr r.1, r.2)
      go (Some y) e (inl q) ih = (x, inl refl, e ∙ ap Some q)
      go (Some y) e (inr k) ih = let r = ih k in (r.0, inr r.1, r.2)
