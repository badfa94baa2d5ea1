-- Each node that is written where it is used is written once.
use Rattle.rx_notation.proofs.Common.{◌≡◌, ◌∙◌, ◌⊎◌, ◌≤◌, ℕ, zero, suc, ◌+◌, nat_eq, Bool, true, false, bytes_eq, List, [], ◌∷◌, ◌++◌, map, filter, flat_map, length, refl, sym, ap, inl, inr, subst, true≢false, arith, Chars, Among, spo, rdf_first, rdf_rest, rdf_nil, Parent, Ends, at_iri, at_top, onward, Inner, Cell, IsShape, HaveShapes, Shape, has_subject, has_predicate, about, predicates_of, objects_of, same_nodes, object_says, Differ, CellOf, cell_of, cell_inner, first_is_not_rest}
use Rattle.rx_model.proofs.Common.{by_test, Node, Iri, Blank, Term, Resource, Literal, Triple, same_node, set_of, same_term, Among_cases, Among_of_filter, Among_of_flat_map, false_unless, exact_numbers, exact_texts, exact_terms}
use Rattle.rx_shapes.specs.declared.shapes.Shape.TheVariants as shape
use Rattle.rx_shapes.proofs.Times.{one_if, times, once_differ, differ_filter, distinct_differ}
use Rattle.rx_notation.proofs.Means.{in_term, in_cells, in_objects, in_predicates, in_shape, ordered}
use Rattle.rx_notation.proofs.CellParts.{in_cell}

-- ---- sums over a list

abbrev sum : {A : Type 0} → (A → ℕ) → List A → ℕ
sum f [] = 0
sum f (x ∷ xs) = f x + sum f xs

sum_append : {A : Type 0} (f : A → ℕ) (xs ys : List A) → sum f (xs ++ ys) ≡ sum f xs + sum f ys
sum_append f [] ys = omega arith
sum_append f (x ∷ xs) ys = let e = sum_append f xs ys in omega (arith, e)

sum_map : {A B : Type 0} (f : B → ℕ) (g : A → B) (xs : List A) → sum f (map g xs) ≡ sum (λ x. f (g x)) xs
sum_map f g [] = refl
sum_map f g (x ∷ xs) = ap (λ n. f (g x) + n) (sum_map f g xs)

sum_none : {A : Type 0} (f : A → ℕ) (xs : List A) → ((x : A) → Among xs x → f x ≡ 0) → sum f xs ≡ 0
sum_none f [] h = refl
sum_none f (x ∷ xs) h = let first = h x (inl refl) in let rest = sum_none f xs (λ y m. h y (inr m)) in omega (arith, first, rest)

-- one at most, where only this one of them adds something
sum_once : {A : Type 0} (f : A → ℕ) (one : A) (xs : List A) → Differ xs → ((x : A) → Among xs x → (f x ≡ 0) ⊎ ((f x ≤ 1) × (x ≡ one))) → sum f xs ≤ 1
sum_once f one [] d h = omega arith
sum_once {A} f one (x ∷ xs) d h = elim (h x (inl refl)) [
  | inl none ↦ let rest = sum_once f one xs d.1 (λ y m. h y (inr m)) in omega (arith, none, rest)
  | inr most ↦ let few : f x ≤ 1 = most.0 in let rest = sum_none f xs (λ y m. others y m most.1) in omega (arith, few, rest)
]
  where
    others : (y : A) → Among xs y → x ≡ one → f y ≡ 0
    others y m e = elim (h y (inr m)) [ inl none ↦ none | inr most ↦ absurd (d.0 (subst (Among xs) (most.1 ∙ sym e) m)) ]

none_if : (b : Bool) → ¬ (b ≡ true) → one_if b ≡ 0
none_if b h = ap one_if (false_unless b h)

one_by : {A : Type 0} {x y : A} (b : Bool) → (b ≡ true → x ≡ y) → (one_if b ≡ 0) ⊎ ((one_if b ≤ 1) × (x ≡ y))
one_by true h = inr (omega arith, h refl)
one_by false h = inl refl

-- ---- how often nodes stand in lists, and objects are a node

abbrev same : Node ℕ → Node ℕ → Bool
same a c = same_node nat_eq a c

abbrev times_of : Node ℕ → List ℕ → ℕ
times_of q ns = sum (λ x. one_if (same q (Blank x))) ns

times_is : (b : ℕ) (ns : List ℕ) → times b ns ≡ times_of (Blank b) ns
times_is b [] = refl
times_is b (x ∷ xs) = ap (λ n. one_if (nat_eq b x) + n) (times_is b xs)

abbrev stands : Node ℕ → List (Node ℕ) → ℕ
stands q nodes = sum (λ s. one_if (same q s)) nodes

stands_not : (q : Node ℕ) (nodes : List (Node ℕ)) → ¬ (Among nodes q) → stands q nodes ≡ 0
stands_not q nodes h = sum_none (λ s. one_if (same q s)) nodes (λ s m. none_if (same q s) (λ e. h (subst (Among nodes) (sym ((same_nodes q s).0 e)) m)))

stands_once : (q : Node ℕ) (nodes : List (Node ℕ)) → Differ nodes → stands q nodes ≤ 1
stands_once q nodes d = sum_once (λ s. one_if (same q s)) q nodes d (λ s m. one_by (same q s) (λ e. sym ((same_nodes q s).0 e)))

abbrev is_it : ℕ → Term ℕ → Bool
is_it b o = same_term nat_eq (Resource (Blank b)) o

its : (b : ℕ) (o : Term ℕ) → is_it b o ≡ true → o ≡ Resource (Blank b)
its b o e = sym ((exact_terms nat_eq exact_numbers (Resource (Blank b)) o).0 e)

abbrev uses : ℕ → List (Term ℕ) → ℕ
uses b objects = sum (λ o. one_if (is_it b o)) objects

-- ---- the triples of a list that has each once

module _ (list : List (Triple ℕ)) (each_once : Differ list) (b : ℕ) (q : Node ℕ) (has : Parent (set_of list) b q) where
  abbrev parent_triple : Triple ℕ
  parent_triple = spo q has.predicate (Resource (Blank b))

  line_few : (s : Node ℕ) (p : Chars) → uses b (objects_of list s p) ≤ 1
  line_few s p =
      let mine : List (Triple ℕ) = filter (has_predicate p) (about list s) in
      let same = sum_map (λ o. one_if (is_it b o)) (λ (t : Triple ℕ). t.object) mine in
      let few = sum_once (λ (t : Triple ℕ). one_if (is_it b t.object)) parent_triple mine (differ_filter (has_predicate p) (about list s) (differ_filter (has_subject s) list each_once))
      (λ t m. one_by (is_it b t.object) (λ e. has.alone t (Among_of_filter (has_subject s) list t (Among_of_filter (has_predicate p) (about list s) t m).0).0 (its b t.object e))) in
      omega (arith, same, few)

  -- none but its parent has it as object
  line_none : (s : Node ℕ) (p : Chars) → ((o : Term ℕ) → spo s p o ≡ parent_triple → ⊥) → uses b (objects_of list s p) ≡ 0
  line_none s p other =
      sum_none (λ o. one_if (is_it b o)) (objects_of list s p) (λ o m. none_if (is_it b o) (λ e. other o (has.alone (spo s p o) (object_says list s p o m) (its b o e))))

  abbrev said : Node ℕ → ℕ
  said s = sum (λ p. uses b (objects_of list s p)) (predicates_of list s)

  -- a subject says it once at most, and only where it is the parent
  said_few : (s : Node ℕ) → said s ≤ one_if (same q s)
  said_few s = by_test (same q s) (λ t. rw t once) (λ t. rw t (none (λ e. true≢false (sym ((same_nodes q s).1 (sym e)) ∙ t))))
    where
      once : said s ≤ 1
      once = sum_once (λ p. uses b (objects_of list s p)) has.predicate (predicates_of list s) (distinct_differ bytes_eq exact_texts (map (λ (t : Triple ℕ). t.predicate) (about list s)))
          (λ p m. by_test (bytes_eq p has.predicate) (λ t. inr (line_few s p, (exact_texts p has.predicate).0 t))
          (λ t. inl (line_none s p (λ o e. true≢false (sym ((exact_texts p has.predicate).1 (ap (λ (t : Triple ℕ). t.predicate) e)) ∙ t)))))

      none : ¬ (s ≡ q) → said s ≤ 0
      none other = let e = sum_none (λ p. uses b (objects_of list s p)) (predicates_of list s) (λ p m. line_none s p (λ o e. other (ap (λ (t : Triple ℕ). t.subject) e))) in omega (arith, e)

  -- a cell has it as its item or behind, and then is its parent
  pair_few : (number : ℕ) (c : CellOf list number) → one_if (is_it b c.item) + one_if (is_it b c.after) ≤ one_if (same q (Blank number))
  pair_few number c = go (is_it b c.item) (is_it b c.after) refl refl
    where
      of_triple : (p : Chars) (o : Term ℕ) → Among list (spo (Blank number) p o) → is_it b o ≡ true → spo (Blank number) p o ≡ parent_triple
      of_triple p o m e = has.alone (spo (Blank number) p o) m (its b o e)

      parent : (p : Chars) (o : Term ℕ) → Among list (spo (Blank number) p o) → is_it b o ≡ true → 1 ≤ one_if (same q (Blank number))
      parent p o m e = rw ((same_nodes q (Blank number)).1 (sym (ap (λ (t : Triple ℕ). t.subject) (of_triple p o m e)))) (omega arith)

      go : (x y : Bool) → is_it b c.item ≡ x → is_it b c.after ≡ y → one_if x + one_if y ≤ one_if (same q (Blank number))
      go false false e f = omega arith
      go true false e f = parent rdf_first c.item c.pair.first e
      go false true e f = parent rdf_rest c.after c.pair.rest f
      go true true e f =
          absurd (first_is_not_rest (ap (λ (t : Triple ℕ). t.predicate) (of_triple rdf_first c.item c.pair.first e ∙ sym (of_triple rdf_rest c.after c.pair.rest f))))

-- ---- it is written as often as its parent is, and so many times more

module _ (b : ℕ) (q : Node ℕ) where
  abbrev AtMost : ℕ → List ℕ → Type 0
  AtMost i ns = times_of (Blank b) ns ≤ i + times_of q ns

  both_most : (i j : ℕ) (xs ys : List ℕ) → AtMost i xs → AtMost j ys → AtMost (i + j) (xs ++ ys)
  both_most i j xs ys f g =
      let mine = sum_append (λ x. one_if (same (Blank b) (Blank x))) xs ys in
      let parents = sum_append (λ x. one_if (same q (Blank x))) xs ys in
      omega (arith, f, g, mine, parents)

  flat_most : {A : Type 0} (i : A → ℕ) (f : A → List ℕ) (xs : List A) → ((x : A) → AtMost (i x) (f x)) → AtMost (sum i xs) (flat_map f xs)
  flat_most i f [] h = omega arith
  flat_most i f (x ∷ xs) h = both_most (i x) (sum i xs) (f x) (flat_map f xs) (h x) (flat_most i f xs h)

  less_most : (i j : ℕ) (ns : List ℕ) → AtMost i ns → i ≤ j → AtMost j ns
  less_most i j ns f l = omega (arith, f, l)

  own_most : (i n : ℕ) (ns : List ℕ) → AtMost i ns → i ≤ one_if (same q (Blank n)) → AtMost (one_if (nat_eq b n)) (n ∷ ns)
  own_most i n ns f l = omega (arith, f, l)

-- ---- all nodes

module _ (list : List (Triple ℕ)) (shapes : ℕ → Shape) (have : HaveShapes list shapes) where
  abbrev pub nodes_at : ℕ → ℕ → List ℕ
  nodes_at left n = (ordered list shapes left n).0

  abbrev pub cells_at : ℕ → ℕ → List ℕ
  cells_at left n = (ordered list shapes left n).1

  -- what is written below a subject, and below some of them, in order
  abbrev below_one : Node ℕ → List ℕ
  below_one s = in_predicates (nodes_at (length list)) (objects_of list s) (predicates_of list s)

  abbrev pub below_all : List (Node ℕ) → List ℕ
  below_all tops = flat_map below_one tops

  abbrev AreInner : List ℕ → Type 0
  AreInner ns = (x : ℕ) → Among ns x → Inner (set_of list) x

  flat_inner : {A : Type 0} (f : A → List ℕ) (xs : List A) → ((x : A) → AreInner (f x)) → AreInner (flat_map f xs)
  flat_inner f xs h n m = let found = Among_of_flat_map f xs n m in h found.0 n found.2

  own_inner : (n : ℕ) (ns : List ℕ) → Inner (set_of list) n → AreInner ns → AreInner (n ∷ ns)
  own_inner n ns i f x m = elim m [ inl e ↦ subst (Inner (set_of list)) e i | inr k ↦ f x k ]

  module _ (each_once : Differ list) where
    -- what is written for an object: inner nodes, each as often as its parent, and once more where it is the object itself
    record Below (o : Term ℕ) (ns : List ℕ) : Type 0 where
      inner : AreInner ns
      few : (b : ℕ) (q : Node ℕ) → Parent (set_of list) b q → AtMost b q (one_if (is_it b o)) ns

    none_below : (o : Term ℕ) → Below o []
    none_below o = record { inner = λ x m. absurd m; few = λ b q has. omega arith }

    module _ (nodes : ℕ → List ℕ) (below : (n : ℕ) → Below (Resource (Blank n)) (nodes n)) where
      term_below : (o : Term ℕ) → Below o (in_term nodes o)
      term_below (Resource (Blank n)) = below n
      term_below (Resource (Iri iri)) = none_below (Resource (Iri iri))
      term_below (Literal text kind) = none_below (Literal text kind)

      abbrev said_by : Node ℕ → List ℕ
      said_by s = in_predicates nodes (objects_of list s) (predicates_of list s)

      said_inner : (s : Node ℕ) → AreInner (said_by s)
      said_inner s = flat_inner _ (predicates_of list s) (λ p. flat_inner (in_term nodes) (objects_of list s p) (λ o. (term_below o).inner))

      said_most : (s : Node ℕ) (b : ℕ) (q : Node ℕ) (has : Parent (set_of list) b q) → AtMost b q (said list each_once b q has s) (said_by s)
      said_most s b q has =
          flat_most b q (λ p. uses b (objects_of list s p)) (λ p. in_objects nodes (objects_of list s p)) (predicates_of list s)
          (λ p. flat_most b q (λ o. one_if (is_it b o)) (in_term nodes) (objects_of list s p) (λ o. (term_below o).few b q has))

      inside_below : (n : ℕ) → Inner (set_of list) n → Below (Resource (Blank n)) (n ∷ said_by (Blank n))
      inside_below n i = record {
        inner = own_inner n (said_by (Blank n)) i (said_inner (Blank n));
        few = λ b q has. own_most b q (said list each_once b q has (Blank n)) n (said_by (Blank n)) (said_most (Blank n) b q has) (said_few list each_once b q has (Blank n));
      }

      module _ (cells : ℕ → List ℕ) (behind : (n : ℕ) → Cell (set_of list) n → Below (Resource (Blank n)) (cells n)) where
        after_below : (number : ℕ) (c : CellOf list number) → Below c.after (in_term cells c.after)
        after_below number c = elim c.next [
          | inl e ↦ subst (λ (z : Term ℕ). Below z (in_term cells z)) (sym e) (none_below (Resource (Iri rdf_nil)))
          | inr d ↦ subst (λ (z : Term ℕ). Below z (in_term cells z)) (sym d.1) (behind d.0 d.2)
        ]

        cell_below : (n : ℕ) → Cell (set_of list) n → Below (Resource (Blank n)) (in_cells nodes cells n (objects_of list (Blank n) rdf_first) (objects_of list (Blank n) rdf_rest))
        cell_below n k =
            let c : CellOf list n = cell_of list n k in
            let xs : List ℕ = in_term nodes c.item in
            let ys : List ℕ = in_term cells c.after in
            let item = term_below c.item in
            let after = after_below n c in
            subst (Below (Resource (Blank n))) (sym (in_cell list n c nodes cells)) (record {
              inner = own_inner n (xs ++ ys) (cell_inner list n k) (λ x m. elim (Among_cases xs ys x m) [ inl l ↦ item.inner x l | inr l ↦ after.inner x l ]);
              few = λ b q has. own_most b q (one_if (is_it b c.item) + one_if (is_it b c.after)) n (xs ++ ys)
                  (both_most b q (one_if (is_it b c.item)) (one_if (is_it b c.after)) xs ys (item.few b q has) (after.few b q has)) (pair_few list each_once b q has n c);
            })

        shape_below : (n : ℕ) (s : Shape) → IsShape (set_of list) n s → Below (Resource (Blank n)) (in_shape list shapes nodes cells s n)
        shape_below n shape.Labelled h = none_below (Resource (Blank n))
        shape_below n shape.Inside h = inside_below n h.0
        shape_below n shape.Cell h = cell_below n h

    all_below : (left : ℕ) → ((n : ℕ) → Below (Resource (Blank n)) (nodes_at left n)) × ((n : ℕ) → Cell (set_of list) n → Below (Resource (Blank n)) (cells_at left n))
    all_below zero = (λ n. none_below (Resource (Blank n)), λ n k. none_below (Resource (Blank n)))
    all_below (suc left) =
        let before = all_below left in
        (λ n. shape_below (nodes_at left) before.0 (cells_at left) before.1 n (shapes n) (have n), λ n k. cell_below (nodes_at left) before.0 (cells_at left) before.1 n k)

    -- ---- in a document

    pub below_inner : (tops : List (Node ℕ)) → AreInner (below_all tops)
    below_inner tops = flat_inner below_one tops (λ s. said_inner (nodes_at (length list)) (all_below (length list)).0 s)

    module _ (tops : List (Node ℕ)) (differ : Differ tops) (outer : (a : ℕ) → Among tops (Blank a) → ¬ (Inner (set_of list) a)) where
      top_most : (b : ℕ) (q : Node ℕ) → Parent (set_of list) b q → AtMost b q (stands q tops) (below_all tops)
      top_most b q has =
          flat_most b q (λ s. one_if (same q s)) below_one tops
          (λ s. less_most b q (said list each_once b q has s) (one_if (same q s)) (below_one s) (said_most (nodes_at (length list)) (all_below (length list)).0 s b q has) (said_few list each_once b q has s))

      written_once : (b : ℕ) (q : Node ℕ) → Parent (set_of list) b q → Ends (set_of list) q → times_of (Blank b) (below_all tops) ≤ 1
      written_once b (Iri iri) has at_iri =
          let few = top_most b (Iri iri) has in
          let once = stands_once (Iri iri) tops differ in
          let no : times_of (Iri iri) (below_all tops) ≡ 0 = sum_none (λ x. 0) (below_all tops) (λ x m. refl) in
          omega (arith, few, once, no)
      written_once b (Blank a) has (at_top none) =
          let few = top_most b (Blank a) has in
          let once = stands_once (Blank a) tops differ in
          let no : times_of (Blank a) (below_all tops) ≡ 0 = sum_none (λ x. one_if (nat_eq a x)) (below_all tops) (λ x m. none_if (nat_eq a x) (λ e.
          let i = below_inner tops a (subst (Among (below_all tops)) (sym ((exact_numbers a x).0 e)) m) in none i.parent i.has)) in
          omega (arith, few, once, no)
      written_once b (Blank a) has (onward {parent = r} p e) =
          let few = top_most b (Blank a) has in
          let no = stands_not (Blank a) tops (λ m. outer a m (record { parent = r; has = p; ends = e })) in
          let once = written_once a r p e in
          omega (arith, few, once, no)

      pub below_differ : Differ (below_all tops)
      below_differ =
          once_differ (below_all tops) (λ b m.
          let i = below_inner tops b m in let e = times_is b (below_all tops) in let once = written_once b i.parent i.has i.ends in omega (arith, e, once))
