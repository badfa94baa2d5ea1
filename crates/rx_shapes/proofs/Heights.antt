-- How deep inner nodes nest: no deeper than the list has triples.
use Rattle.rx_shapes.proofs.Common.{◌≡◌, ◌∙◌, ◌≤◌, ℕ, suc, List, [], ◌∷◌, length, refl, sym, ap, inl, inr, subst, arith, Among, Node, Blank, Resource, Triple, set_of, spo, Parent, Ends, at_iri, at_top, onward}

-- ---- lists

-- no element stands twice
abbrev pub Differ : {A : Type 0} → List A → Type 0
Differ [] = Unit {0}
Differ (x ∷ xs) = ¬ (Among xs x) × Differ xs

-- the rest of a list without one that is there
record Without {A : Type 0} (ys : List A) (x : A) : Type 0 where
  rest : List A
  shorter : length ys ≡ suc (length rest)
  others : (y : A) → Among ys y → ¬ (x ≡ y) → Among rest y

without_behind : {A : Type 0} (z : A) (ys : List A) (x : A) → Without ys x → Without (z ∷ ys) x
without_behind {A} z ys x r = record { rest = z ∷ r.rest; shorter = ap suc r.shorter; others = other }
  where
    other : (y : A) → Among (z ∷ ys) y → ¬ (x ≡ y) → Among (z ∷ r.rest) y
    other y (inl f) n = inl f
    other y (inr m) n = inr (r.others y m n)

without : {A : Type 0} (ys : List A) (x : A) → Among ys x → Without ys x
without [] x h = absurd h
without {A} (z ∷ ys) x (inl e) = record { rest = ys; shorter = refl; others = other }
  where
    other : (y : A) → Among (z ∷ ys) y → ¬ (x ≡ y) → Among ys y
    other y (inl f) n = absurd (n (sym e ∙ f))
    other y (inr m) n = m
without (z ∷ ys) x (inr h) = without_behind z ys x (without ys x h)

-- a list whose elements differ isn't longer than one that has them all
pub no_longer : {A : Type 0} (xs ys : List A) → Differ xs → ((x : A) → Among xs x → Among ys x) → length xs ≤ length ys
no_longer [] ys d h = omega arith
no_longer {A} (x ∷ xs) ys d h =
    let w = without ys x (h x (inl refl)) in
    let shorter : length xs ≤ length w.rest = no_longer xs w.rest d.1 (λ y m. w.others y (h y (inr m)) (λ e. d.0 (subst (Among xs) (sym e) m))) in
    let size : length ys ≡ suc (length w.rest) = w.shorter in
    omega (arith, shorter, size)

-- ---- chains of parents

module _ (list : List (Triple ℕ)) where
  -- how many parents stand above
  abbrev pub height : {node : Node ℕ} → Ends (set_of list) node → ℕ
  height at_iri = 0
  height (at_top none) = 0
  height (onward p e) = suc (height e)

  pub parent_once : {b : ℕ} {p q : Node ℕ} → Parent (set_of list) b p → Parent (set_of list) b q → p ≡ q
  parent_once {b} {p} {q} has other = ap (λ (t : Triple ℕ). t.subject) (other.alone (spo p has.predicate (Resource (Blank b))) has.held refl)

  pub height_once : {node : Node ℕ} (e f : Ends (set_of list) node) → height e ≡ height f
  height_once at_iri at_iri = refl
  height_once (at_top none) (at_top other) = refl
  height_once (at_top none) (onward {parent = q} p f) = absurd (none q p)
  height_once (onward {parent = q} p e) (at_top none) = absurd (none q p)
  height_once (onward p e) (onward o f) = ap suc (subst (λ (z : Node ℕ). (g : Ends (set_of list) z) → height e ≡ height g) (parent_once p o) (λ g. height_once e g) f)

  pub heights_alike : {x y : Node ℕ} → x ≡ y → (e : Ends (set_of list) x) (f : Ends (set_of list) y) → height e ≡ height f
  heights_alike path e f = subst (λ (z : Node ℕ). (g : Ends (set_of list) z) → height e ≡ height g) path (λ g. height_once e g) f

  -- the triples by which a node hangs from those above it
  abbrev hangs_by : {node : Node ℕ} → Ends (set_of list) node → List (Triple ℕ)
  hangs_by at_iri = []
  hangs_by (at_top none) = []
  hangs_by (onward {b = b} {parent = q} p e) = spo q p.predicate (Resource (Blank b)) ∷ hangs_by e

  hangs_size : {node : Node ℕ} (e : Ends (set_of list) node) → length (hangs_by e) ≡ height e
  hangs_size (onward p e) = ap suc (hangs_size e)
  hangs_size _ = refl

  hangs_there : {node : Node ℕ} (e : Ends (set_of list) node) (t : Triple ℕ) → Among (hangs_by e) t → Among list t
  hangs_there (onward p e) t (inl f) = subst (Among list) f p.held
  hangs_there (onward p e) t (inr m) = hangs_there e t m
  hangs_there _ t m = absurd m

  record Above (most : ℕ) (t : Triple ℕ) : Type 0 where
    node : ℕ
    ends : Ends (set_of list) (Blank node)
    object : t.object ≡ Resource (Blank node)
    below : height ends ≤ most

  above : {node : Node ℕ} (e : Ends (set_of list) node) (t : Triple ℕ) → Among (hangs_by e) t → Above (height e) t
  above at_iri t m = absurd m
  above (at_top none) t m = absurd m
  above (onward {b = b} p e) t (inl f) = record { node = b; ends = onward p e; object = sym (ap (λ (u : Triple ℕ). u.object) f); below = omega arith }
  above (onward p e) t (inr m) =
      let a = above e t m in
      let less : height a.ends ≤ height e = a.below in
      record { node = a.node; ends = a.ends; object = a.object; below = omega (arith, less) }

  nodes_alike : (b c : ℕ) → Resource (Blank b) ≡ Resource (Blank c) → Blank b ≡ Blank c
  nodes_alike b c e = cc

  hangs_differ : {node : Node ℕ} (e : Ends (set_of list) node) → Differ (hangs_by e)
  hangs_differ at_iri = tt
  hangs_differ (at_top none) = tt
  hangs_differ (onward {b = b} {parent = q} p e) = (twice, hangs_differ e)
    where
      twice : ¬ (Among (hangs_by e) (spo q p.predicate (Resource (Blank b))))
      twice m =
          let a = above e (spo q p.predicate (Resource (Blank b))) m in
          let less : height a.ends ≤ height e = a.below in
          let same : suc (height e) ≡ height a.ends = heights_alike (nodes_alike b a.node a.object) (onward p e) a.ends in
          absurd (omega (arith, less, same))

  pub height_bound : {node : Node ℕ} (e : Ends (set_of list) node) → height e ≤ length list
  height_bound e = subst (λ n. n ≤ length list) (hangs_size e) (no_longer (hangs_by e) list (hangs_differ e) (hangs_there e))
