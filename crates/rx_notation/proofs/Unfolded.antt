-- What a node is written as, without counting levels: a node in brackets by its own objects, a cell by its item and what
-- comes behind.
use Rattle.rx_notation.proofs.Common.{◌≡◌, ◌∙◌, ℕ, zero, suc, List, [], ◌∷◌, length, ◌<◌, ◌+◌, refl, sym, ap, ap₂, inl, inr, subst, arith, Chars, Among, Iri, Blank, Term, Resource, Literal, Triple, set_of, spo, rdf_first, rdf_rest, Inner, Cell, IsShape, HaveShapes, Shape, Prefixes, predicates_of, objects_of, Labelled, Object, Objects, Items, Predicates, Part, IriOrLabel, Bracketed, Collection, Single, Comma, Last, Item, Predicate, Done, Also, object_says, objects_after, some_objects, cell_items, verb_of, predicates_after, bracketed, inside, object_by, node_by, written, height, CellOf, cell_of, cell_inner, Enough, none_left, child_enough, first_enough}
use Rattle.rx_shapes.specs.declared.shapes.Shape.TheVariants as shape
use Rattle.rx_notation.proofs.CellParts.{cell_last, cell_more}

-- ---- parts of objects that are written alike

module _ (f g : Term ℕ → Part Object) where
  abbrev Alike : List (Term ℕ) → Type 0
  Alike objects = (o : Term ℕ) → Among objects o → f o ≡ g o

  objects_alike : (first : Term ℕ) (more : List (Term ℕ)) → Alike (first ∷ more) → objects_after f first more ≡ objects_after g first more
  objects_alike first [] h = ap Single (h first (inl refl))
  objects_alike first (next ∷ more) h = ap₂ Comma (h first (inl refl)) (objects_alike next more (λ o m. h o (inr m)))

  some_alike : (objects : List (Term ℕ)) → Alike objects → some_objects f objects ≡ some_objects g objects
  some_alike [] h = refl
  some_alike (first ∷ more) h = objects_alike first more h

  module _ (context : Prefixes) (objects : Chars → List (Term ℕ)) where
    abbrev AllAlike : List Chars → Type 0
    AllAlike ps = (p : Chars) → Among ps p → Alike (objects p)

    predicates_alike : (first : Chars) (more : List Chars) → AllAlike (first ∷ more) → predicates_after context f objects first more ≡ predicates_after context g objects first more
    predicates_alike first [] h = ap (λ (z : Part Objects). Predicate (verb_of context first) z Done) (some_alike (objects first) (h first (inl refl)))
    predicates_alike first (next ∷ more) h =
        ap₂ (λ (y : Part Objects) (z : Part Predicates). Predicate (verb_of context first) y (Also z)) (some_alike (objects first) (h first (inl refl))) (predicates_alike next more (λ p m. h p (inr m)))

    bracketed_alike : (ps : List Chars) → AllAlike ps → bracketed context f objects ps ≡ bracketed context g objects ps
    bracketed_alike [] h = refl
    bracketed_alike (first ∷ more) h = ap Bracketed (predicates_alike first more h)

module _ (context : Prefixes) (list : List (Triple ℕ)) (shapes : ℕ → Shape) (have : HaveShapes list shapes) where
  abbrev node_at : ℕ → ℕ → Part Object
  node_at left n = (written context list shapes left n).0

  abbrev cell_at : ℕ → ℕ → Part Items
  cell_at left n = (written context list shapes left n).1

  abbrev object_at : ℕ → Term ℕ → Part Object
  object_at left o = object_by context (node_at left) o

  abbrev SameNode : ℕ → ℕ → ℕ → Type 0
  SameNode left most n = (Inner (set_of list) n → Enough list left n) → (Inner (set_of list) n → Enough list most n) → node_at left n ≡ node_at most n

  abbrev SameCell : ℕ → ℕ → ℕ → Type 0
  SameCell left most n = Cell (set_of list) n → Enough list left n → Enough list most n → cell_at left n ≡ cell_at most n

  object_same : (left most : ℕ) → ((n : ℕ) → SameNode left most n) → (o : Term ℕ) → ((n : ℕ) → o ≡ Resource (Blank n) → Inner (set_of list) n → Enough list left n) → ((n : ℕ) → o ≡ Resource (Blank n) → Inner (set_of list) n → Enough list most n)
      → object_at left o ≡ object_at most o
  object_same left most node (Resource (Iri iri)) h k = refl
  object_same left most node (Resource (Blank n)) h k = node n (h n refl) (k n refl)
  object_same left most node (Literal text kind) h k = refl

  -- the objects of a node
  child_same : (left most : ℕ) → ((n : ℕ) → SameNode left most n) → (number : ℕ) → Enough list (suc left) number → Enough list (suc most) number → (p : Chars) (o : Term ℕ) → Among list (spo (Blank number) p o)
      → object_at left o ≡ object_at most o
  child_same left most node number h k p o m =
      object_same left most node o (λ n e i. child_enough list left number n p h (subst (λ (z : Term ℕ). Among list (spo (Blank number) p z)) e m) i)
      (λ n e i. child_enough list most number n p k (subst (λ (z : Term ℕ). Among list (spo (Blank number) p z)) e m) i)

  cells_same : (left most : ℕ) → ((n : ℕ) → SameNode left most n) → ((n : ℕ) → SameCell left most n) → (number : ℕ) → Cell (set_of list) number → Enough list (suc left) number → Enough list (suc most) number
      → cell_items (object_at left) (cell_at left) list number ≡ cell_items (object_at most) (cell_at most) list number
  cells_same left most node below number is_cell h k = elim c.next [
    | inl e ↦ cell_last list number c (object_at left) (cell_at left) e ∙ ap Last item ∙ sym (cell_last list number c (object_at most) (cell_at most) e)
    | inr d ↦ cell_more list number c (object_at left) (cell_at left) d.0 d.1 ∙ ap₂ Item item (next d.0 d.1 d.2) ∙ sym (cell_more list number c (object_at most) (cell_at most) d.0 d.1)
  ]
    where
      c : CellOf list number
      c = cell_of list number is_cell

      item : object_at left c.item ≡ object_at most c.item
      item = child_same left most node number h k rdf_first c.item c.pair.first

      next : (d : ℕ) → c.after ≡ Resource (Blank d) → Cell (set_of list) d → cell_at left d ≡ cell_at most d
      next d e is =
          let held : Among list (spo (Blank number) rdf_rest (Resource (Blank d))) = subst (λ (z : Term ℕ). Among list (spo (Blank number) rdf_rest z)) e c.pair.rest in
          below d is (child_enough list left number d rdf_rest h held (cell_inner list d is)) (child_enough list most number d rdf_rest k held (cell_inner list d is))

  inside_same : (left most : ℕ) → ((n : ℕ) → SameNode left most n) → (number : ℕ) → Enough list (suc left) number → Enough list (suc most) number
      → inside context (object_at left) list (Blank number) ≡ inside context (object_at most) list (Blank number)
  inside_same left most node number h k =
      bracketed_alike (object_at left) (object_at most) context (objects_of list (Blank number)) (predicates_of list (Blank number))
      (λ p m o n. child_same left most node number h k p o (object_says list (Blank number) p o n))

  -- ---- it makes no difference how many levels are left, where they are enough

  step_same : (left most : ℕ) → ((n : ℕ) → SameNode left most n) → ((n : ℕ) → SameCell left most n) → (number : ℕ) → SameNode (suc left) (suc most) number
  step_same left most node below number h k = go (shapes number) (have number)
    where
      go : (s : Shape) → IsShape (set_of list) number s → node_by context list shapes (object_at left) (cell_at left) s number ≡ node_by context list shapes (object_at most) (cell_at most) s number
      go shape.Labelled i = refl
      go shape.Inside i = inside_same left most node number (h i.0) (k i.0)
      go shape.Cell i = ap Collection (cells_same left most node below number i (h (cell_inner list number i)) (k (cell_inner list number i)))

  node_none : (n left : ℕ) → (Inner (set_of list) n → ⊥) → node_at left n ≡ IriOrLabel (Labelled n)
  node_none n zero h = refl
  node_none n (suc left) h = go (shapes n) (have n)
    where
      go : (s : Shape) → IsShape (set_of list) n s → node_by context list shapes (object_at left) (cell_at left) s n ≡ IriOrLabel (Labelled n)
      go shape.Labelled i = refl
      go shape.Inside i = absurd (h i.0)
      go shape.Cell i = absurd (h (cell_inner list n i))

  pub all_same : (left most : ℕ) → ((n : ℕ) → SameNode left most n) × ((n : ℕ) → SameCell left most n)
  all_same zero most = (
    λ n h k. sym (node_none n most (λ i. none_left list n i (h i))),
    λ n c h k. absurd (none_left list n (cell_inner list n c) h),
  )
  all_same (suc left) zero = (
    λ n h k. node_none n (suc left) (λ i. none_left list n i (k i)),
    λ n c h k. absurd (none_left list n (cell_inner list n c) k),
  )
  all_same (suc left) (suc most) =
      let before = all_same left most in (
        λ n h k. step_same left most before.0 before.1 n h k,
        λ n c h k. cells_same left most before.0 before.1 n c h k,
      )

  -- ---- nodes by themselves

  abbrev pub node : ℕ → Part Object
  node n = node_at (length list) n

  abbrev pub cell : ℕ → Part Items
  cell n = cell_at (length list) n

  abbrev pub object : Term ℕ → Part Object
  object o = object_by context node o

  enough : (n : ℕ) → Inner (set_of list) n → Enough list (length list) n
  enough n i = first_enough list n i

  more_enough : (n : ℕ) → Inner (set_of list) n → Enough list (suc (length list)) n
  more_enough n i e = let less : length list < length list + height list e = enough n i e in omega (arith, less)

  -- a node is written by its shape, and its objects likewise
  pub node_unfolds : (n : ℕ) → node n ≡ node_by context list shapes object cell (shapes n) n
  node_unfolds n = (all_same (length list) (suc (length list))).0 n (enough n) (more_enough n)

  pub cell_unfolds : (n : ℕ) → Cell (set_of list) n → cell n ≡ cell_items object cell list n
  cell_unfolds n c = (all_same (length list) (suc (length list))).1 n c (enough n (cell_inner list n c)) (more_enough n (cell_inner list n c))
