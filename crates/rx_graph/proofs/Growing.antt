-- Lists to which each element comes once, from left to right, and the places of the elements.
use Rattle.rx_model.proofs.Common.{◌≡◌, suc, ◌+◌, Bool, true, false, List, [], ◌∷◌, ◌++◌, length, refl, sym, ap, ◌∙◌, inl, inr, true≢false, append_assoc, append-nil, cond, arith, or_parts, by_test, Among, IsExact, contains, distinct, with_one, with_all, place_in, Among_right, Among-contains, Among_distinct, or_cases, or_left, or_right}
use Rattle.rx_graph.proofs.SetLemmas.{distinct_grows}

module _ {B : Type 0} (same : B → B → Bool) where
  -- ---- what the front has

  pub contains_append : (xs ys : List B) (b : B) → contains same xs b ≡ true → contains same (xs ++ ys) b ≡ true
  contains_append [] ys b h = absurd (true≢false (sym h))
  contains_append (x ∷ xs) ys b h = elim (or_cases (same x b) (contains same xs b) h) [ inl e ↦ or_left (same x b) (contains same (xs ++ ys) b) e | inr k ↦ or_right (same x b) (contains same (xs ++ ys) b) (contains_append xs ys b k) ]

  pub place_append : (xs ys : List B) (b : B) → contains same xs b ≡ true → place_in same (xs ++ ys) b ≡ place_in same xs b
  place_append [] ys b h = absurd (true≢false (sym h))
  place_append (x ∷ xs) ys b h = elim (or_cases (same x b) (contains same xs b) h) [ inl e ↦ rw e refl | inr k ↦ ap (λ n. cond (same x b) 0 (suc n)) (place_append xs ys b k) ]

  -- ---- what the front lacks

  pub contains_behind : (front xs : List B) (b : B) → contains same front b ≡ false → contains same (front ++ xs) b ≡ contains same xs b
  contains_behind [] xs b h = refl
  contains_behind (x ∷ front) xs b h = let none = or_parts (same x b) (contains same front b) h in rw none.0 (contains_behind front xs b none.1)

  pub place_behind : (front xs : List B) (b : B) → contains same front b ≡ false → place_in same (front ++ xs) b ≡ length front + place_in same xs b
  place_behind [] xs b h = omega arith
  place_behind (x ∷ front) xs b h =
      let none = or_parts (same x b) (contains same front b) h in
      let rest = place_behind front xs b none.1 in
      rw none.0 (omega (arith, rest))

  pub one_behind : (front xs : List B) (b : B) → contains same front b ≡ false → with_one same (front ++ xs) b ≡ front ++ with_one same xs b
  one_behind front xs b h = rw (contains_behind front xs b h) (by_test (contains same xs b) (λ e. rw e refl) (λ e. rw e (append_assoc front xs (b ∷ []))))

  -- ---- one list after another

  pub all_append : (list xs ys : List B) → with_all same list (xs ++ ys) ≡ with_all same (with_all same list xs) ys
  all_append list [] ys = refl
  all_append list (x ∷ xs) ys = all_append (with_one same list x) xs ys

  -- xs is known among ys, at the same places
  pub record Kept (xs ys : List B) : Type 0 where
    pub among : (b : B) → contains same xs b ≡ true → contains same ys b ≡ true
    pub places : (b : B) → contains same xs b ≡ true → place_in same ys b ≡ place_in same xs b

  kept_self : (xs : List B) → Kept xs xs
  kept_self xs = record { among = λ b h. h; places = λ b h. refl }

  kept_then : (xs ys zs : List B) → Kept xs ys → Kept ys zs → Kept xs zs
  kept_then xs ys zs k l = record { among = λ b h. l.among b (k.among b h); places = λ b h. l.places b (k.among b h) ∙ k.places b h }

  kept_append : (xs ys : List B) → Kept xs (xs ++ ys)
  kept_append xs ys = record { among = contains_append xs ys; places = place_append xs ys }

  kept_one : (seen : List B) (b : B) → Kept seen (with_one same seen b)
  kept_one seen b = by_test (contains same seen b) (λ e. rw e (kept_self seen)) (λ e. rw e (kept_append seen (b ∷ [])))

  pub kept_all : (seen more : List B) → Kept seen (with_all same seen more)
  kept_all seen [] = kept_self seen
  kept_all seen (b ∷ more) = kept_then seen (with_one same seen b) (with_all same (with_one same seen b) more) (kept_one seen b) (kept_all (with_one same seen b) more)

module _ {B : Type 0} (same : B → B → Bool) (exact : IsExact same) where
  pub has_last : (xs : List B) (b : B) → contains same (xs ++ b ∷ []) b ≡ true
  has_last xs b = Among-contains same exact (xs ++ b ∷ []) b (Among_right xs (b ∷ []) b (inl refl))

  pub has_one : (seen : List B) (b : B) → contains same (with_one same seen b) b ≡ true
  has_one seen b = by_test (contains same seen b) (λ e. rw e e) (λ e. rw e (has_last seen b))

  pub has_all : (seen more : List B) (b : B) → Among more b → contains same (with_all same seen more) b ≡ true
  has_all seen [] b h = absurd h
  has_all seen (c ∷ more) b (inl e) = (kept_all same (with_one same seen c) more).among b (ap (contains same (with_one same seen c)) (sym e) ∙ has_one seen c)
  has_all seen (c ∷ more) b (inr h) = has_all (with_one same seen c) more b h

  -- ---- from left to right it is `distinct`

  pub all_distinct : (list more : List B) → with_all same (distinct same list) more ≡ distinct same (list ++ more)
  all_distinct list [] = ap (distinct same) (sym (append-nil list))
  all_distinct list (b ∷ more) = ap (λ z. with_all same z more) (sym (distinct_grows same exact list b)) ∙ all_distinct (list ++ b ∷ []) more ∙ ap (distinct same) (append_assoc list (b ∷ []) more)

  pub in_distinct : (list : List B) (b : B) → Among list b → contains same (distinct same list) b ≡ true
  in_distinct list b m = Among-contains same exact (distinct same list) b (Among_distinct same exact list b m)

  -- what is among the list has a place in its table, and keeps it when the list grows
  pub place_stays : (list more : List B) (b : B) → Among list b → place_in same (distinct same list) b ≡ place_in same (distinct same (list ++ more)) b
  place_stays list more b m = sym ((kept_all same (distinct same list) more).places b (in_distinct list b m)) ∙ ap (λ z. place_in same z b) (all_distinct list more)
