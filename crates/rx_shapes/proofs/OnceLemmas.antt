-- Lists in which each stands once, and which of their elements pass a test.
use Rattle.rx_shapes.proofs.Common.{◌≡◌, ◌⊎◌, ℕ, Bool, true, List, [], ◌∷◌, filter, slice_get, Some, refl, sym, ap, ap₂, subst, ◌∙◌, inl, inr, Among, IsExact, distinct, Among_filter, Among_of_filter, positions}
use Rattle.rx_shapes.proofs.Heights.{Differ}
use Rattle.rx_shapes.proofs.Times.{differ_filter, distinct_differ}
use Rattle.rx_shapes.proofs.RowLemmas.{Stand, passing}

module _ {A : Type 0} where
  pub once : (same : A → A → Bool) → IsExact same → (list : List A) → distinct same list ≡ list → Differ list
  once same exact list h = subst Differ h (distinct_differ same exact list)

  -- ---- one that passes, or two

  only_one : (t : A) (xs : List A) → Differ xs → Among xs t → ((u : A) → Among xs u → u ≡ t) → xs ≡ t ∷ []
  only_one t [] d m h = absurd m
  only_one t (x ∷ []) d m h = ap (λ z. z ∷ []) (h x (inl refl))
  only_one t (x ∷ y ∷ more) d m h = absurd (d.0 (inl (h y (inr (inl refl)) ∙ sym (h x (inl refl)))))

  -- x is one of the two, so the other is the only one behind it
  with_first : (x : A) (xs : List A) → Differ (x ∷ xs) → (y z : A) → x ≡ y → ¬ (y ≡ z) → Among (x ∷ xs) z → ((w : A) → Among xs w → (w ≡ y) ⊎ (w ≡ z)) → x ∷ xs ≡ y ∷ z ∷ []
  with_first x xs d y z e apart m two = ap₂ ◌∷◌ e (only_one z xs d.1 (elim m [ inl s ↦ absurd (apart (sym e ∙ s)) | inr k ↦ k ])
      (λ w k. elim (two w k) [ inl r ↦ absurd (d.0 (subst (Among xs) (r ∙ sym e) k)) | inr r ↦ r ]))

  only_two : (t u : A) (xs : List A) → ¬ (t ≡ u) → Differ xs → Among xs t → Among xs u → ((w : A) → Among xs w → (w ≡ t) ⊎ (w ≡ u)) → (xs ≡ t ∷ u ∷ []) ⊎ (xs ≡ u ∷ t ∷ [])
  only_two t u [] apart d m n h = absurd m
  only_two t u (x ∷ xs) apart d m n h = elim (h x (inl refl)) [
    | inl e ↦ inl (with_first x xs d t u e apart n (λ w k. h w (inr k)))
    | inr e ↦ inr (with_first x xs d u t e (λ s. apart (sym s)) m (λ w k. elim (h w (inr k)) [ inl r ↦ inr r | inr r ↦ inl r ]))
  ]

  module _ (test : A → Bool) (list : List A) where
    -- where these are the ones that pass
    at_row : (xs : List A) → filter test list ≡ xs → Stand (slice_get list) (positions test 0 list) xs
    at_row xs e = subst (Stand (slice_get list) (positions test 0 list)) e (passing test list)

    -- the only one that passes stands at a place
    pub single : (t : A) → Differ list → Among list t → test t ≡ true → ((u : A) → Among list u → test u ≡ true → u ≡ t) → (i : ℕ) × (positions test 0 list ≡ i ∷ []) × (slice_get list i ≡ Some t)
    single t d m p alone = go (positions test 0 list) (at_row (t ∷ []) (only_one t (filter test list) (differ_filter test list d) (Among_filter test list t m p) (λ u k. let found = Among_of_filter test list u k in alone u found.0 found.1)))
      where
        go : (row : List ℕ) → Stand (slice_get list) row (t ∷ []) → (i : ℕ) × (row ≡ i ∷ []) × (slice_get list i ≡ Some t)
        go [] s = absurd s
        go (i ∷ []) s = (i, refl, s.0)
        go (i ∷ k ∷ row) s = absurd s.1

    -- these stand at two places
    abbrev pub Double : A → A → Type 0
    Double t u = (i : ℕ) × (k : ℕ) × (positions test 0 list ≡ i ∷ k ∷ []) × (slice_get list i ≡ Some t) × (slice_get list k ≡ Some u)

    -- the only two that pass stand at two places, in one order or the other
    pub double : (t u : A) → test t ≡ true → test u ≡ true → ¬ (t ≡ u) → Differ list → Among list t → Among list u → ((w : A) → Among list w → test w ≡ true → (w ≡ t) ⊎ (w ≡ u)) → Double t u ⊎ Double u t
    double t u p q apart d m n alone =
        let only = only_two t u (filter test list) apart (differ_filter test list d) (Among_filter test list t m p) (Among_filter test list u n q) (λ w k. let found = Among_of_filter test list w k in alone w found.0 found.1) in
        elim only [ inl e ↦ inl (go t u (positions test 0 list) (at_row (t ∷ u ∷ []) e)) | inr e ↦ inr (go u t (positions test 0 list) (at_row (u ∷ t ∷ []) e)) ]
      where
        go : (x y : A) (row : List ℕ) → Stand (slice_get list) row (x ∷ y ∷ []) → (i : ℕ) × (k : ℕ) × (row ≡ i ∷ k ∷ []) × (slice_get list i ≡ Some x) × (slice_get list k ≡ Some y)
        go x y [] s = absurd s
        go x y (i ∷ []) s = absurd s.1
        go x y (i ∷ k ∷ []) s = (i, k, refl, s.0, s.1.0)
        go x y (i ∷ k ∷ l ∷ row) s = absurd s.1.1

    -- ---- the other way: what stands at the one place, or at the two

    with_row : (row : List ℕ) → positions test 0 list ≡ row → Stand (slice_get list) row (filter test list)
    with_row row e = subst (λ (z : List ℕ). Stand (slice_get list) z (filter test list)) e (passing test list)

    passes_in : (xs : List A) → filter test list ≡ xs → (x : A) → Among xs x → test x ≡ true
    passes_in xs e x m = (Among_of_filter test list x (subst (λ (z : List A). Among z x) (sym e) m)).1

    pub record One (i : ℕ) : Type 0 where
      pub it : A
      pub at : slice_get list i ≡ Some it
      pub passes : test it ≡ true
      pub alone : (u : A) → Among list u → test u ≡ true → u ≡ it

    pub one_at : (i : ℕ) → positions test 0 list ≡ i ∷ [] → One i
    one_at i row = go (filter test list) refl (with_row (i ∷ []) row)
      where
        go : (xs : List A) → filter test list ≡ xs → Stand (slice_get list) (i ∷ []) xs → One i
        go [] e s = absurd s
        go (x ∷ []) e s = record {
          it = x;
          at = s.0;
          passes = passes_in (x ∷ []) e x (inl refl);
          alone = λ u m p. elim (subst (λ (z : List A). Among z u) e (Among_filter test list u m p)) [ inl q ↦ sym q | inr z ↦ absurd z ];
        }
        go (x ∷ y ∷ xs) e s = absurd s.1

    pub record Two (i k : ℕ) : Type 0 where
      pub one : A
      pub other : A
      pub at : slice_get list i ≡ Some one
      pub other_at : slice_get list k ≡ Some other
      pub passes : test one ≡ true
      pub other_passes : test other ≡ true
      pub alone : (u : A) → Among list u → test u ≡ true → (u ≡ one) ⊎ (u ≡ other)

    pub two_at : (i k : ℕ) → positions test 0 list ≡ i ∷ k ∷ [] → Two i k
    two_at i k row = go (filter test list) refl (with_row (i ∷ k ∷ []) row)
      where
        go : (xs : List A) → filter test list ≡ xs → Stand (slice_get list) (i ∷ k ∷ []) xs → Two i k
        go [] e s = absurd s
        go (x ∷ []) e s = absurd s.1
        go (x ∷ y ∷ []) e s = record {
          one = x;
          other = y;
          at = s.0;
          other_at = s.1.0;
          passes = passes_in (x ∷ y ∷ []) e x (inl refl);
          other_passes = passes_in (x ∷ y ∷ []) e y (inr (inl refl));
          alone = λ u m p. elim (subst (λ (z : List A). Among z u) e (Among_filter test list u m p)) [
            | inl q ↦ inl (sym q)
            | inr z ↦ elim z [ inl q ↦ inr (sym q) | inr none ↦ absurd none ]
          ];
        }
        go (x ∷ y ∷ z ∷ xs) e s = absurd s.1.1
