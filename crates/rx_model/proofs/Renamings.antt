-- Two graphs that are one graph renamed are each other renamed.
use Rattle.rx_model.proofs.Common.{◌≡◌, ◌∙◌, ℕ, nat_eq, List, [], ◌∷◌, ◌++◌, map, Option, Some, refl, sym, ap, ap₂, inl, inr, subst, true≢false, map-append, find, Among, Node, Iri, Blank, Term, Resource, Literal, Triple, set_of, rename_node, rename_term, rename, blank_of_node, blank_of_term, blanks_of, blanks, Has, Renamed, Among_left, Among_right, Among_of_map, Among_flat_map, Among_of_flat_map, exact_numbers}
use Rattle.rx_terms.proofs.Bools.{split}
use Rattle.std.specs.Option.{option_map, unwrap_or}

-- ---- the blank nodes of a triple that is renamed

module _ {A B : Type 0} (f : A → B) where
  blank_node : (n : Node A) → blank_of_node (rename_node f n) ≡ map f (blank_of_node n)
  blank_node (Iri iri) = refl
  blank_node (Blank b) = refl

  blank_term : (t : Term A) → blank_of_term (rename_term f t) ≡ map f (blank_of_term t)
  blank_term (Resource n) = blank_node n
  blank_term (Literal lexical kind) = refl

  pub triple_blanks : (t : Triple A) → blanks_of (rename f t) ≡ map f (blanks_of t)
  triple_blanks t = ap₂ ◌++◌ (blank_node t.subject) (blank_term t.object) ∙ sym (map-append f (blank_of_node t.subject) (blank_of_term t.object))

  triple_blank : (t : Triple A) (b : B) → Among (blanks_of (rename f t)) b → (a : A) × Among (blanks_of t) a × (f a ≡ b)
  triple_blank t b h = Among_of_map f (blanks_of t) b (subst (λ list. Among list b) (triple_blanks t) h)

-- renamed twice is renamed once
module _ {A B C : Type 0} (f : A → B) (g : B → C) (h : A → C) where
  pub node_twice : (n : Node A) → ((a : A) → Among (blank_of_node n) a → g (f a) ≡ h a) → rename_node g (rename_node f n) ≡ rename_node h n
  node_twice (Iri iri) same = refl
  node_twice (Blank a) same = ap Blank (same a (inl refl))

  pub term_twice : (t : Term A) → ((a : A) → Among (blank_of_term t) a → g (f a) ≡ h a) → rename_term g (rename_term f t) ≡ rename_term h t
  term_twice (Resource n) same = ap Resource (node_twice n same)
  term_twice (Literal lexical kind) same = refl

  pub triple_twice : (t : Triple A) → ((a : A) → Among (blanks_of t) a → g (f a) ≡ h a) → rename g (rename f t) ≡ rename h t
  triple_twice t same =
      let subject = node_twice t.subject (λ a k. same a (Among_left (blank_of_node t.subject) (blank_of_term t.object) a k)) in
      let object = term_twice t.object (λ a k. same a (Among_right (blank_of_node t.subject) (blank_of_term t.object) a k)) in
      λ i. record { subject = subject i; predicate = t.predicate; object = object i }

  pub all_twice : (list : List (Triple A)) → ((a : A) → Among (blanks list) a → g (f a) ≡ h a) → map (rename g) (map (rename f) list) ≡ map (rename h) list
  all_twice [] same = refl
  all_twice (t ∷ list) same = ap₂ ◌∷◌ (triple_twice t (λ a k. same a (Among_left (blanks_of t) (blanks list) a k))) (all_twice list (λ a k. same a (Among_right (blanks_of t) (blanks list) a k)))

-- ---- a name found by the number that it is renamed to

module _ {A : Type 0} (f : A → ℕ) where
  abbrev by_number : List A → ℕ → Option A
  by_number names n = find (λ name. nat_eq (f name) n) names

  found : (names : List A) (n : ℕ) (a : A) → Among names a → f a ≡ n → (b : A) × (by_number names n ≡ Some b) × Among names b × (f b ≡ n)
  found [] n a h e = absurd h
  found (x ∷ names) n a h e = split (λ o. (b : A) × (o ≡ Some b) × Among (x ∷ names) b × (f b ≡ n)) (nat_eq (f x) n) (Some x) (by_number names n)
      (λ t. (x, refl, inl refl, (exact_numbers (f x) n).0 t))
      (λ t. elim h [
        | inl k ↦ absurd (true≢false (sym ((exact_numbers (f x) n).1 (ap f k ∙ e)) ∙ t))
        | inr k ↦ (let rest = found names n a k e in (rest.0, rest.1, inr rest.2, rest.3))
      ])

-- ---- between two graphs

module _ {A : Type 0} (middle : List (Triple A)) (xs ys : List (Triple ℕ)) (r : Renamed (set_of middle) (set_of xs)) (s : Renamed (set_of middle) (set_of ys)) where
  abbrev across : ℕ → ℕ
  across n = unwrap_or (option_map s.to (by_number r.to (blanks middle) n)) 0

  has_blank : (a : A) → Among (blanks middle) a → Has (set_of middle) a
  has_blank a h = Among_of_flat_map (λ t. blank_of_node t.subject ++ blank_of_term t.object) middle a h

  blank_of : (t : Triple A) (a : A) → Among middle t → Among (blanks_of t) a → Among (blanks middle) a
  blank_of t a m h = Among_flat_map (λ t. blank_of_node t.subject ++ blank_of_term t.object) middle t a m h

  -- what a number of the first graph was renamed from
  record From (n : ℕ) : Type 0 where
    a : A
    there : Among (blanks middle) a
    from : r.to a ≡ n
    goes : across n ≡ s.to a

  comes_from : (n : ℕ) (a : A) → Among (blanks middle) a → r.to a ≡ n → From n
  comes_from n a h e =
      let f = found r.to (blanks middle) n a h e in
      record { a = f.0; there = f.2; from = f.3; goes = ap (λ z. unwrap_or (option_map s.to z) 0) f.1 }

  from_graph : (n : ℕ) → Has (set_of xs) n → From n
  from_graph n (t, m, h) =
      let u = r.back t m in
      let b = triple_blank r.to u.0 n (subst (λ (z : Triple ℕ). Among (blanks_of z) n) (sym u.2) h) in
      comes_from n b.0 (blank_of u.0 b.0 u.1 b.1) b.2

  across_same : (a : A) → Among (blanks middle) a → across (r.to a) ≡ s.to a
  across_same a h =
      let f = comes_from (r.to a) a h refl in
      f.goes ∙ ap s.to (r.one_to_one f.a a (has_blank f.a f.there) (has_blank a h) f.from)

  both_ways : (u : Triple A) → Among middle u → rename across (rename r.to u) ≡ rename s.to u
  both_ways u m = triple_twice r.to across s.to u (λ a h. across_same a (blank_of u a m h))

  across_forth : (t : Triple ℕ) → Among xs t → Among ys (rename across t)
  across_forth t m =
      let u = r.back t m in
      subst (Among ys) (sym (both_ways u.0 u.1) ∙ ap (rename across) u.2) (s.forth u.0 u.1)

  across_back : (w : Triple ℕ) → Among ys w → (t : Triple ℕ) × Among xs t × (rename across t ≡ w)
  across_back w m =
      let u = s.back w m in
      (rename r.to u.0, r.forth u.0 u.1, both_ways u.0 u.1 ∙ u.2)

  across_one : (n m : ℕ) → Has (set_of xs) n → Has (set_of xs) m → across n ≡ across m → n ≡ m
  across_one n m h k e =
      let f = from_graph n h in
      let g = from_graph m k in
      sym f.from ∙ ap r.to (s.one_to_one f.a g.a (has_blank f.a f.there) (has_blank g.a g.there) (sym f.goes ∙ e ∙ g.goes)) ∙ g.from

  pub renamed_across : Renamed (set_of xs) (set_of ys)
  renamed_across = record { to = across; one_to_one = across_one; forth = across_forth; back = across_back }
