-- What nodes mean that are written where they are used.
use Rattle.rx_notation.proofs.Common.{◌≡◌, ◌∙◌, ◌⊎◌, ◌↔◌, ◌<◌, ◌^◌, ℕ, zero, suc, ◌+◌, List, [], ◌∷◌, ◌++◌, length, refl, sym, ap, inl, inr, subst, arith, and_parts, Chars, Among, Node, Iri, Blank, Term, Resource, Literal, Triple, set_of, spo, Among_left, Among_right, Among_cases, rdf_first, rdf_rest, rdf_nil, proper_term, proper_triple, WritableTerm, IsWritable, Inner, Cell, IsShape, HaveShapes, Shape, Prefixes, predicates_of, objects_of, Sort, Object, Items, Predicates, Part, Last, Item, all_known, unlabelled, term_of, triples, predicate_there, object_there, predicate_says, object_says, verb_of, predicates_after, bracketed, object_by, cell_items, node_by, written, CellOf, cell_of, cell_inner, Enough, none_left, child_enough}
use Rattle.std.proofs.lemmas.List.{length-append}
use Rattle.rx_shapes.specs.declared.shapes.Shape.TheVariants as shape
use Rattle.rx_notation.proofs.Chosen.{Agree}
use Rattle.rx_notation.proofs.Spelled.{GoodVerb, Good}
use Rattle.rx_notation.proofs.Declared.{good_reference, verb_good, suffix_good}
use Rattle.rx_notation.proofs.CellParts.{in_cell, cell_last, cell_more}
use Rattle.rx_notation.proofs.Means.{in_term, in_cells, in_predicates, in_shape, ordered, NamedSo, named_front, named_behind, Known, Under, under_by, under_left, under_right, under_cases, Means, iri_means, literal_means, labelled_means, SaidBy, MeansPredicates, AllSay, predicates_mean}

-- a label is that of a node that isn't written where it is used
abbrev pub Free : List (Triple ℕ) → ℕ → Type 0
Free list number = ¬ (Inner (set_of list) number)

module _ (context declared : Prefixes) (agree : Agree context declared) (list : List (Triple ℕ)) (w : IsWritable list) (place : ℕ → ℕ) where
  abbrev MeansTerm : Part Object → Term ℕ → List ℕ → Type 0
  MeansTerm part o ns = Means context declared agree list place context (Free list) part o ns

  abbrev IsTold : List ℕ → Triple ℕ → Type 0
  IsTold ns t = Under context declared agree list place context (Free list) ns t

  abbrev Is_known : {sort : Sort} → Part sort → Type 0
  Is_known part = Known context declared agree list place context (Free list) part

  -- the part is the cells of a list from this one on
  pub record MeansItems (part : Part Items) (number : ℕ) (ns : List ℕ) : Type 0 where
    pub size : unlabelled part ≡ length ns
    pub good : Good context (Free list) part
    pub head : (n : ℕ) → NamedSo place n ns → place n ≡ number
    pub says : (n : ℕ) → Is_known part → NamedSo place n ns → (t : Triple ℕ)
        → Among (triples declared (λ number. number) place part tt n) t ↔ IsTold ns t

  pub good_verb : (s : Node ℕ) (p : Chars) (o : Term ℕ) → Among list (spo s p o) → GoodVerb context (Free list) (verb_of context p)
  good_verb s p o m = verb_good context context (Free list) p (w.parts (spo s p o) m).predicate.is_iri (λ iri h k. good_reference context (Free list) iri h)

  -- ---- a node in brackets

  abbrev AllMeanOf : (ℕ → Part Object) → (ℕ → List ℕ) → ℕ → Type 0
  AllMeanOf node nodes number = (p : Chars) (o : Term ℕ) → Among list (spo (Blank number) p o) → MeansTerm (object_by context node o) o (in_term nodes o)

  abbrev Spoken : ℕ → List Chars → Triple ℕ → Type 0
  Spoken number ps t = SaidBy context declared agree list place context (Free list) (Blank number) (objects_of list (Blank number)) ps t

  abbrev Speaks : ℕ → List Chars → Type 0
  Speaks number ps = (t : Triple ℕ) → Among list t → t.subject ≡ Blank number → Among ps t.predicate

  -- what is said of a node, and of those below, is what is said of them all
  own_said : (number : ℕ) (ps : List Chars) (ns : List ℕ) → Speaks number ps → (t : Triple ℕ) → (Spoken number ps t ⊎ IsTold ns t) ↔ IsTold (number ∷ ns) t
  own_said number ps ns speaks t = (forth, back)
    where
      forth : Spoken number ps t ⊎ IsTold ns t → IsTold (number ∷ ns) t
      forth (inl y) = record {
        triple = spo (Blank number) y.it y.holds.it;
        there = object_says list (Blank number) y.it y.holds.it y.holds.among;
        read = y.holds.holds;
        node = number;
        among = inl refl;
        said = refl;
      }
      forth (inr u) = under_right context declared agree list place context (Free list) (number ∷ []) ns t u

      spoken : (u : Triple ℕ) → Among list u → u.subject ≡ Blank number → proper_triple u ≡ t → Spoken number ps t
      spoken u m e r = record {
        it = u.predicate;
        among = speaks u m e;
        holds = record {
          it = u.object;
          among = subst (λ (z : Node ℕ). Among (objects_of list z u.predicate) u.object) e (object_there list u m);
          holds = ap (λ (z : Node ℕ). spo z u.predicate (proper_term u.object)) (sym e) ∙ r;
        };
      }

      back : IsTold (number ∷ ns) t → Spoken number ps t ⊎ IsTold ns t
      back u = elim u.among [
        | inl e ↦ inl (spoken u.triple u.there (u.said ∙ ap Blank (sym e)) u.read)
        | inr m ↦ inr (under_by context declared agree list place context (Free list) u m)
      ]

  bracketed_means : (node : ℕ → Part Object) (nodes : ℕ → List ℕ) (number : ℕ) → AllMeanOf node nodes number
      → (ps : List Chars) → ((p : Chars) → Among ps p → Among (predicates_of list (Blank number)) p) → Speaks number ps
      → MeansTerm (bracketed context (object_by context node) (objects_of list (Blank number)) ps) (Resource (Blank number)) (number ∷ in_predicates nodes (objects_of list (Blank number)) ps)
  bracketed_means node nodes number each [] there speaks = record {
    size = refl;
    good = tt;
    term = λ n w h. ap (λ z. Resource (Blank z)) h.0;
    says = λ n w h t. (λ a. absurd a, λ u. elim ((own_said number [] [] speaks t).1 u) [ inl y ↦ absurd y.among | inr v ↦ absurd v.among ]);
  }
  bracketed_means node nodes number each (first ∷ more) there speaks = record {
    size = ap suc m.size;
    good = m.good;
    term = λ n w h. ap (λ z. Resource (Blank z)) h.0;
    says = says;
  }
    where
      objects : Chars → List (Term ℕ)
      objects = objects_of list (Blank number)

      all : AllSay context declared agree list place context (Free list) (object_by context node) nodes objects (first ∷ more)
      all p k =
          let some = predicate_says list (Blank number) p (there p k) in
          let held = object_says list (Blank number) p some.0 some.1 in
          (good_verb (Blank number) p some.0 held, (some, λ o l. each p o (object_says list (Blank number) p o l)))

      m : MeansPredicates context declared agree list place context (Free list) (object_by context node) nodes objects (predicates_after context (object_by context node) objects first more) (first ∷ more)
      m = predicates_mean context declared agree list place context (Free list) (object_by context node) nodes objects first more all

      ns : List ℕ
      ns = in_predicates nodes objects (first ∷ more)

      part : Part Predicates
      part = predicates_after context (object_by context node) objects first more

      says : (n : ℕ) → Is_known part → NamedSo place n (number ∷ ns) → (t : Triple ℕ) → Among (triples declared (λ number. number) place part (Blank (place n)) (suc n)) t ↔ IsTold (number ∷ ns) t
      says n w h t =
          let own = own_said number (first ∷ more) ns speaks t in
          let by : Among (triples declared (λ number. number) place part (Blank (place n)) (suc n)) t ↔ (Spoken number (first ∷ more) t ⊎ IsTold ns t) =
          subst (λ z. Among (triples declared (λ number. number) place part (Blank z) (suc n)) t ↔ (Spoken number (first ∷ more) t ⊎ IsTold ns t)) (sym h.0) (m.says (Blank number) (suc n) w h.1 t) in
          (λ a. own.0 (by.0 a), λ u. by.1 (own.1 u))

  inside_means : (node : ℕ → Part Object) (nodes : ℕ → List ℕ) (number : ℕ) → AllMeanOf node nodes number
      → MeansTerm (bracketed context (object_by context node) (objects_of list (Blank number)) (predicates_of list (Blank number))) (Resource (Blank number))
      (number ∷ in_predicates nodes (objects_of list (Blank number)) (predicates_of list (Blank number)))
  inside_means node nodes number each =
      bracketed_means node nodes number each (predicates_of list (Blank number)) (λ p m. m) (λ t m e. subst (λ (z : Node ℕ). Among (predicates_of list z) t.predicate) e (predicate_there list t m))

  -- ---- cells of a list

  -- the triples of a cell, with those of its item and of the cells behind
  cell_said : (number : ℕ) (c : CellOf list number) (mine tail : List (Triple ℕ)) (xs ys : List ℕ) (t first rest : Triple ℕ)
      → first ≡ proper_triple (spo (Blank number) rdf_first c.item) → rest ≡ proper_triple (spo (Blank number) rdf_rest c.after)
      → Among mine t ↔ IsTold xs t → Among tail t ↔ IsTold ys t → Among (first ∷ (mine ++ rest ∷ tail)) t ↔ IsTold (number ∷ (xs ++ ys)) t
  cell_said number c mine tail xs ys t first rest is_first is_rest m l = (forth, back)
    where
      own : (u : Triple ℕ) → Among list u → u.subject ≡ Blank number → proper_triple u ≡ t → IsTold (number ∷ (xs ++ ys)) t
      own u k e r = record { triple = u; there = k; read = r; node = number; among = inl refl; said = e }

      inner : IsTold (xs ++ ys) t → IsTold (number ∷ (xs ++ ys)) t
      inner u = under_right context declared agree list place context (Free list) (number ∷ []) (xs ++ ys) t u

      forth_behind : Among (rest ∷ tail) t → IsTold (number ∷ (xs ++ ys)) t
      forth_behind (inl e) = own (spo (Blank number) rdf_rest c.after) c.pair.rest refl (sym is_rest ∙ e)
      forth_behind (inr a) = inner (under_right context declared agree list place context (Free list) xs ys t (l.0 a))

      forth : Among (first ∷ (mine ++ rest ∷ tail)) t → IsTold (number ∷ (xs ++ ys)) t
      forth (inl e) = own (spo (Blank number) rdf_first c.item) c.pair.first refl (sym is_first ∙ e)
      forth (inr a) = elim (Among_cases mine (rest ∷ tail) t a) [
        | inl b ↦ inner (under_left context declared agree list place context (Free list) xs ys t (m.0 b))
        | inr b ↦ forth_behind b
      ]

      mine_back : (u : Triple ℕ) → Among list u → u.subject ≡ Blank number → proper_triple u ≡ t → Among (first ∷ (mine ++ rest ∷ tail)) t
      mine_back u k e r = elim (c.pair.alone u k e) [
        | inl f ↦ inl (is_first ∙ ap proper_triple (sym f) ∙ r)
        | inr f ↦ inr (Among_right mine (rest ∷ tail) t (inl (is_rest ∙ ap proper_triple (sym f) ∙ r)))
      ]

      back_below : IsTold (xs ++ ys) t → Among (first ∷ (mine ++ rest ∷ tail)) t
      back_below u = elim (under_cases context declared agree list place context (Free list) xs ys t u) [
        | inl v ↦ inr (Among_left mine (rest ∷ tail) t (m.1 v))
        | inr v ↦ inr (Among_right mine (rest ∷ tail) t (inr (l.1 v)))
      ]

      back : IsTold (number ∷ (xs ++ ys)) t → Among (first ∷ (mine ++ rest ∷ tail)) t
      back u = elim u.among [
        | inl e ↦ mine_back u.triple u.there (u.said ∙ ap Blank (sym e)) u.read
        | inr k ↦ back_below (under_by context declared agree list place context (Free list) u k)
      ]

  -- the item is a term that means what it is, and so is what comes behind
  module _ (node : ℕ → Part Object) (cell : ℕ → Part Items) (nodes : ℕ → List ℕ) (below : ℕ → List ℕ) (number : ℕ) (c : CellOf list number)
      (item : MeansTerm (object_by context node c.item) c.item (in_term nodes c.item)) where
    last_means : c.after ≡ Resource (Iri rdf_nil) → MeansItems (Last (object_by context node c.item)) number (number ∷ (in_term nodes c.item ++ []))
    last_means e = record { size = sized; good = item.good; head = λ n h. h.0; says = says }
      where
        ns : List ℕ
        ns = in_term nodes c.item

        part : Part Object
        part = object_by context node c.item

        sized : suc (unlabelled part) ≡ suc (length (ns ++ []))
        sized = let f = length-append ns [] in let g : unlabelled part ≡ length ns = item.size in omega (arith, f, g)

        says : (n : ℕ) → Is_known part → NamedSo place n (number ∷ (ns ++ [])) → (t : Triple ℕ)
            → Among (triples declared (λ number. number) place (Last part) tt n) t ↔ IsTold (number ∷ (ns ++ [])) t
        says n w h t =
            let k : NamedSo place (suc n) ns = named_front place (suc n) ns [] h.1 in
            cell_said number c (triples declared (λ number. number) place part tt (suc n)) [] ns [] t
            (spo (Blank (place n)) rdf_first (term_of declared (λ number. number) place part (suc n))) (spo (Blank (place n)) rdf_rest (Resource (Iri rdf_nil)))
            (λ i. spo (Blank (h.0 i)) rdf_first (item.term (suc n) w k i)) (λ i. spo (Blank (h.0 i)) rdf_rest (proper_term (sym e i)))
            (item.says (suc n) w k t) (λ a. absurd a, λ u. absurd u.among)

    item_means : (d : ℕ) → c.after ≡ Resource (Blank d) → MeansItems (cell d) d (below d) → MeansItems (Item (object_by context node c.item) (cell d)) number (number ∷ (in_term nodes c.item ++ below d))
    item_means d e behind = record { size = sized; good = (item.good, behind.good); head = λ n h. h.0; says = says }
      where
        ns : List ℕ
        ns = in_term nodes c.item

        part : Part Object
        part = object_by context node c.item

        sized : suc (unlabelled part) + unlabelled (cell d) ≡ suc (length (ns ++ below d))
        sized = let f = length-append ns (below d) in let g : unlabelled part ≡ length ns = item.size in let k : unlabelled (cell d) ≡ length (below d) = behind.size in omega (arith, f, g, k)

        says : (n : ℕ) → Is_known (Item part (cell d)) → NamedSo place n (number ∷ (ns ++ below d)) → (t : Triple ℕ)
            → Among (triples declared (λ number. number) place (Item part (cell d)) tt n) t ↔ IsTold (number ∷ (ns ++ below d)) t
        says n w h t =
            let k : NamedSo place (suc n) ns = named_front place (suc n) ns (below d) h.1 in
            let l : NamedSo place (suc n + unlabelled part) (below d) = subst (λ z. NamedSo place (suc n + z) (below d)) (sym item.size) (named_behind place (suc n) ns (below d) h.1) in
            let parts : Is_known part × Is_known (cell d) = and_parts (all_known declared part) (all_known declared (cell d)) w in
            let first : place (suc n + unlabelled part) ≡ d = behind.head (suc n + unlabelled part) l in
            cell_said number c (triples declared (λ number. number) place part tt (suc n)) (triples declared (λ number. number) place (cell d) tt (suc n + unlabelled part)) ns (below d) t
            (spo (Blank (place n)) rdf_first (term_of declared (λ number. number) place part (suc n))) (spo (Blank (place n)) rdf_rest (Resource (Blank (place (suc n + unlabelled part)))))
            (λ i. spo (Blank (h.0 i)) rdf_first (item.term (suc n) parts.0 k i)) (λ i. spo (Blank (h.0 i)) rdf_rest (((ap (λ z. Resource (Blank z)) first ∙ ap proper_term (sym e)) i)))
            (item.says (suc n) parts.0 k t) (behind.says (suc n + unlabelled part) parts.1 l t)

  cells_mean : (node : ℕ → Part Object) (cell : ℕ → Part Items) (nodes below : ℕ → List ℕ) (number : ℕ) (c : CellOf list number)
      → MeansTerm (object_by context node c.item) c.item (in_term nodes c.item) → ((d : ℕ) → c.after ≡ Resource (Blank d) → Cell (set_of list) d → MeansItems (cell d) d (below d))
      → MeansItems (cell_items (object_by context node) cell list number) number (in_cells nodes below number (objects_of list (Blank number) rdf_first) (objects_of list (Blank number) rdf_rest))
  cells_mean node cell nodes below number c item behind = elim c.next [
    | inl e ↦ by (cell_last list number c (object_by context node) cell e) (within e) (last_means node cell nodes below number c item e)
    | inr d ↦ by (cell_more list number c (object_by context node) cell d.0 d.1) (within d.1) (item_means node cell nodes below number c item d.0 d.1 (behind d.0 d.1 d.2))
  ]
    where
      by : {part other : Part Items} {ns ms : List ℕ} → part ≡ other → ns ≡ ms → MeansItems other number ms → MeansItems part number ns
      by e f m = rw (e, f) m

      within : {after : Term ℕ} → c.after ≡ after
          → in_cells nodes below number (objects_of list (Blank number) rdf_first) (objects_of list (Blank number) rdf_rest) ≡ number ∷ (in_term nodes c.item ++ in_term below after)
      within e = in_cell list number c nodes below ∙ ap (λ (z : Term ℕ). number ∷ (in_term nodes c.item ++ in_term below z)) e

  -- ---- all nodes

  module _ (shapes : ℕ → Shape) (have : HaveShapes list shapes) where
    abbrev pub node_at : ℕ → ℕ → Part Object
    node_at left n = (written context list shapes left n).0

    abbrev pub nodes_at : ℕ → ℕ → List ℕ
    nodes_at left n = (ordered list shapes left n).0

    abbrev MeansNode : ℕ → ℕ → Type 0
    MeansNode left number = number < 2 ^ 64 → (Inner (set_of list) number → Enough list left number) → MeansTerm (node_at left number) (Resource (Blank number)) (nodes_at left number)

    abbrev MeansCells : ℕ → ℕ → Type 0
    MeansCells left number = Cell (set_of list) number → Enough list left number → MeansItems (written context list shapes left number).1 number (ordered list shapes left number).1

    pub term_means : (left : ℕ) → ((n : ℕ) → MeansNode left n) → (o : Term ℕ) → WritableTerm o → ((n : ℕ) → o ≡ Resource (Blank n) → Inner (set_of list) n → Enough list left n)
        → MeansTerm (object_by context (node_at left) o) o (in_term (nodes_at left) o)
    term_means left node (Resource (Iri iri)) h enough = iri_means context declared agree list place context (Free list) (node_at left) iri (good_reference context (Free list) iri h.is_iri)
    term_means left node (Resource (Blank n)) h enough = node n h (enough n refl)
    term_means left node (Literal text kind) h enough =
        literal_means context declared agree list place context (Free list) text kind (suffix_good context context (Free list) kind h.1 (λ iri k m. good_reference context (Free list) iri k))

    child_means : (left : ℕ) → ((n : ℕ) → MeansNode left n) → (number : ℕ) → Enough list (suc left) number → (p : Chars) (o : Term ℕ) → Among list (spo (Blank number) p o)
        → MeansTerm (object_by context (node_at left) o) o (in_term (nodes_at left) o)
    child_means left node number enough p o m =
        term_means left node o (w.parts (spo (Blank number) p o) m).object (λ n e i. child_enough list left number n p enough (subst (λ (z : Term ℕ). Among list (spo (Blank number) p z)) e m) i)

    cells_at : (left : ℕ) → ((n : ℕ) → MeansNode left n) → ((n : ℕ) → MeansCells left n) → (number : ℕ) → Cell (set_of list) number → Enough list (suc left) number
        → MeansItems (cell_items (object_by context (node_at left)) (λ n. (written context list shapes left n).1) list number) number
        (in_cells (nodes_at left) (λ n. (ordered list shapes left n).1) number (objects_of list (Blank number) rdf_first) (objects_of list (Blank number) rdf_rest))
    cells_at left node below number is_cell enough =
        cells_mean (node_at left) (λ n. (written context list shapes left n).1) (nodes_at left) (λ n. (ordered list shapes left n).1) number c
        (child_means left node number enough rdf_first c.item c.pair.first)
        (λ d e k. below d k (child_enough list left number d rdf_rest enough (subst (λ (z : Term ℕ). Among list (spo (Blank number) rdf_rest z)) e c.pair.rest) (cell_inner list d k)))
      where
        c : CellOf list number
        c = cell_of list number is_cell

    node_in : (left : ℕ) → ((n : ℕ) → MeansNode left n) → ((n : ℕ) → MeansCells left n) → (number : ℕ) → MeansNode (suc left) number
    node_in left node below number small enough = go (shapes number) (have number)
      where
        go : (s : Shape) → IsShape (set_of list) number s
            → MeansTerm (node_by context list shapes (object_by context (node_at left)) (λ n. (written context list shapes left n).1) s number) (Resource (Blank number))
            (in_shape list shapes (nodes_at left) (λ n. (ordered list shapes left n).1) s number)
        go shape.Labelled h = labelled_means context declared agree list place context (Free list) number (small, h)
        go shape.Inside h = inside_means (node_at left) (nodes_at left) number (child_means left node number (enough h.0))
        go shape.Cell h =
            let k = cells_at left node below number h (enough (cell_inner list number h)) in
            record { size = k.size; good = k.good; term = λ n known g. ap (λ z. Resource (Blank z)) (k.head n g); says = k.says }

    pub all_mean : (left : ℕ) → ((n : ℕ) → MeansNode left n) × ((n : ℕ) → MeansCells left n)
    all_mean zero = (
      λ n small enough. labelled_means context declared agree list place context (Free list) n (small, λ i. none_left list n i (enough i)),
      λ n is_cell enough. absurd (none_left list n (cell_inner list n is_cell) enough),
    )
    all_mean (suc left) =
        let before = all_mean left in (λ n small enough. node_in left before.0 before.1 n small enough, λ n is_cell enough. cells_at left before.0 before.1 n is_cell enough)
