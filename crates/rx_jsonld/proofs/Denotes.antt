-- The value of a list denotes its triples.
use Rattle.rx_jsonld.proofs.Common.{◌≡◌, ◌∙◌, ◌↔◌, ◌≤◌, ◌<◌, ◌^◌, ℕ, suc, ◌+◌, nat_eq, true, false, cond, List, [], ◌∷◌, ◌++◌, map, flat_map, length, get_or, refl, sym, ap, inl, inr, subst, true≢false, arith, append_assoc, not, IsIri, Chars, decimal_is_IsNumeral, items_of, Among, contains, Node, Iri, Blank, Term, Resource, Literal, Triple, same_node, same_triple, set_of, spo, rename_node, rename_term, rename, blank_of_node, blank_of_term, blanks_of, place_in, Has, Renamed, Among_right, Among_cases, Among_map, Among_of_map, Among_filter, Among_of_filter, Among_flat_map, Among_of_flat_map, Among_by_contains, Among-contains, Among_of_distinct, false_unless, exact_numbers, exact_triples, rdf_first, rdf_rest, proper_term, proper_triple, WritableNode, WritableTerm, IsWritable, Shape, has_subject, about, subjects, HaveShapes, cells_at, listed, is_listed, node_value, tops, jsonld, all_triples, JsonLdBlank, Label, Place, JsonLd, ValueDenotes}
use Rattle.rx_terms.proofs.Bools.{untrue, by_test}
use Rattle.std.specs.Str.Parse.{digits_value}
use Rattle.std.proofs.lemmas.List.{length-append}
use Rattle.rx_shapes.proofs.Grouped.{same_nodes, about_there, subject_there, of_about}
use Rattle.rx_shapes.proofs.Heights.{Differ}
use Rattle.rx_shapes.proofs.Times.{times, times_append, times_there, once_differ, differ_filter, distinct_differ}
use Rattle.rx_jsonld.proofs.Cells.{IsChain, cells_chain, chain_differs, one_root, of_listed, to_listed, listed_there, there_listed, root_subject}
use Rattle.rx_jsonld.proofs.Parts.{PartStands, Naming, FreeNode, label_of, item_is, cell_triples, told}
use Rattle.rx_jsonld.proofs.Docs.{Docs, docs}

-- ---- counts

times_none : (b : ℕ) (xs : List ℕ) → ¬ (Among xs b) → times b xs ≡ 0
times_none b [] h = refl
times_none b (x ∷ xs) h =
    let rest = times_none b xs (λ m. h (inr m)) in
    by_test (nat_eq b x) (λ e. absurd (h (inl (sym ((exact_numbers b x).0 e))))) (λ e. rw e (omega (arith, rest)))

is_there : (b : ℕ) (xs : List ℕ) → 1 ≤ times b xs → Among xs b
is_there b xs h = by_test (contains nat_eq xs b) (λ e. Among_by_contains nat_eq exact_numbers xs b e) (λ e.
    let none = times_none b xs (λ m. true≢false (sym (Among-contains nat_eq exact_numbers xs b m) ∙ e)) in
    absurd (omega (arith, h, none)))

differ_once : (b : ℕ) (xs : List ℕ) → Differ xs → times b xs ≤ 1
differ_once b [] d = omega arith
differ_once b (x ∷ xs) d =
    let rest = differ_once b xs d.1 in
    by_test (nat_eq b x) (λ e. let none = times_none b xs (λ m. d.0 (subst (Among xs) ((exact_numbers b x).0 e) m)) in rw e (omega (arith, none))) (λ e. rw e (omega (arith, rest)))

once_in_all : {A : Type 0} (f : A → List ℕ) (b : ℕ) (xs : List A) → Differ xs → ((x : A) → Among xs x → times b (f x) ≤ 1)
    → ((x y : A) → Among xs x → Among xs y → Among (f x) b → Among (f y) b → x ≡ y) → times b (flat_map f xs) ≤ 1
once_in_all f b [] d one root = omega arith
once_in_all {A} f b (x ∷ xs) d one root =
    let both = times_append b (f x) (flat_map f xs) in
    let rest = once_in_all f b xs d.1 (λ y m. one y (inr m)) (λ y z m n. root y z (inr m) (inr n)) in
    by_test (contains nat_eq (f x) b) (λ e.
    let here : Among (f x) b = Among_by_contains nat_eq exact_numbers (f x) b e in
    let none = times_none b (flat_map f xs) (λ m.
    let y = Among_of_flat_map f xs b m in
    d.0 (subst (λ (z : A). Among xs z) (sym (root x y.0 (inl refl) (inr y.1) here y.2)) y.1)) in
    let most : times b (f x) ≤ 1 = one x (inl refl) in
    omega (arith, both, none, most))
    (λ e. let none = times_none b (f x) (λ m. true≢false (sym (Among-contains nat_eq exact_numbers (f x) b m) ∙ e)) in omega (arith, both, none, rest))

-- ---- names by place

abbrev pub tail : Chars → Chars
tail [] = []
tail (c ∷ text) = text

module _ (cells : List ℕ) where
  abbrev pub name_of : ℕ → JsonLdBlank
  name_of b = cond (contains nat_eq cells b) (Place (place_in nat_eq cells b)) (label_of b)

  abbrev pub number_of : JsonLdBlank → ℕ
  number_of (Label text) = digits_value 10 (tail text)
  number_of (Place n) = get_or cells n 0

  found_again : (xs : List ℕ) (b : ℕ) → Among xs b → get_or xs (place_in nat_eq xs b) 0 ≡ b
  found_again [] b m = absurd m
  found_again (x ∷ xs) b (inl q) = rw ((exact_numbers x b).1 q) q
  found_again (x ∷ xs) b (inr k) = by_test (nat_eq x b) (λ e. rw e ((exact_numbers x b).0 e)) (λ e. rw e (found_again xs b k))

  name_again : (b : ℕ) → b < 2 ^ 64 → number_of (name_of b) ≡ b
  name_again b h = by_test (contains nat_eq cells b) (λ e. rw e (found_again cells b (Among_by_contains nat_eq exact_numbers cells b e))) (λ e. rw e (decimal_is_IsNumeral b h).1)

  place_of_first : (front more : List ℕ) (x : ℕ) → ¬ (Among front x) → place_in nat_eq (front ++ x ∷ more) x ≡ length front
  place_of_first [] more x h = ap (λ t. cond t 0 (suc (place_in nat_eq more x))) ((exact_numbers x x).1 refl)
  place_of_first (y ∷ front) more x h =
      let other : nat_eq y x ≡ false = false_unless (nat_eq y x) (λ e. h (inl ((exact_numbers y x).0 e))) in
      ap (λ t. cond t 0 (suc (place_in nat_eq (front ++ x ∷ more) x))) other ∙ ap suc (place_of_first front more x (λ m. h (inr m)))

  not_before : (front more : List ℕ) (x : ℕ) → Differ (front ++ x ∷ more) → ¬ (Among front x)
  not_before [] more x d m = m
  not_before (y ∷ front) more x d (inl e) = d.0 (Among_right front (x ∷ more) y (inl (sym e)))
  not_before (y ∷ front) more x d (inr m) = not_before front more x d.1 m

  stands_from : Differ cells → (front xs : List ℕ) → front ++ xs ≡ cells → PartStands name_of (length front) xs
  stands_from d front [] e = tt
  stands_from d front (x ∷ more) e =
      let there : contains nat_eq cells x ≡ true = Among-contains nat_eq exact_numbers cells x (subst (λ (z : List ℕ). Among z x) e (Among_right front (x ∷ more) x (inl refl))) in
      let place : place_in nat_eq cells x ≡ length front =
      ap (λ z. place_in nat_eq z x) (sym e) ∙ place_of_first front more x (not_before front more x (subst Differ (sym e) d)) in
      let longer : length (front ++ x ∷ []) ≡ length front + 1 = length-append front (x ∷ []) in
      let next : length (front ++ x ∷ []) ≡ suc (length front) = omega (arith, longer) in (
        ap (λ t. cond t (Place (place_in nat_eq cells x)) (label_of x)) there ∙ ap Place place,
        subst (λ n. PartStands name_of n more) next (stands_from d (front ++ x ∷ []) more (append_assoc front (x ∷ []) more ∙ e)),
      )

  -- ---- names and numbers, there and back

  abbrev pub FineTerm : Term ℕ → Type 0
  FineTerm (Resource node) = WritableNode node
  FineTerm (Literal text kind) = Unit {0}

  pub record FineTriple (t : Triple ℕ) : Type 0 where
    pub subject : WritableNode t.subject
    pub object : FineTerm t.object

  node_again : (node : Node ℕ) → WritableNode node → rename_node number_of (rename_node name_of node) ≡ node
  node_again (Iri iri) h = refl
  node_again (Blank b) h = ap Blank (name_again b h)

  term_again : (o : Term ℕ) → FineTerm o → rename_term number_of (rename_term name_of o) ≡ o
  term_again (Resource node) h = ap Resource (node_again node h)
  term_again (Literal text kind) h = refl

  triple_again : (t : Triple ℕ) → FineTriple t → rename number_of (rename name_of t) ≡ t
  triple_again t h = λ i. record { subject = node_again t.subject h.subject i; predicate = t.predicate; object = term_again t.object h.object i }

  -- a name of a renamed triple is that of a number
  record Numbered (a : JsonLdBlank) : Type 0 where
    number : ℕ
    is : name_of number ≡ a
    small : number < 2 ^ 64

  node_numbered : (node : Node ℕ) (a : JsonLdBlank) → WritableNode node → Among (blank_of_node (rename_node name_of node)) a → Numbered a
  node_numbered (Iri iri) a h m = absurd m
  node_numbered (Blank b) a h (inl e) = record { number = b; is = e; small = h }
  node_numbered (Blank b) a h (inr m) = absurd m

  term_numbered : (o : Term ℕ) (a : JsonLdBlank) → FineTerm o → Among (blank_of_term (rename_term name_of o)) a → Numbered a
  term_numbered (Resource node) a h m = node_numbered node a h m
  term_numbered (Literal text kind) a h m = absurd m

  triple_numbered : (t : Triple ℕ) (a : JsonLdBlank) → FineTriple t → Among (blanks_of (rename name_of t)) a → Numbered a
  triple_numbered t a h m = elim (Among_cases (blank_of_node (rename_node name_of t.subject)) (blank_of_term (rename_term name_of t.object)) a m) [
    | inl k ↦ node_numbered t.subject a h.subject k
    | inr k ↦ term_numbered t.object a h.object k
  ]

  number_again : (a : JsonLdBlank) → Numbered a → name_of (number_of a) ≡ a
  number_again a n = ap (λ z. name_of (number_of z)) (sym n.is) ∙ ap name_of (name_again n.number n.small) ∙ n.is

  module _ (named : List (Triple JsonLdBlank)) (triples graph : List (Triple ℕ)) (are : named ≡ map (rename name_of) triples) (same : (t : Triple ℕ) → Among triples t ↔ Among graph t)
      (fine : (t : Triple ℕ) → Among graph t → FineTriple t) where
    record Renames (t : Triple JsonLdBlank) : Type 0 where
      from : Triple ℕ
      there : Among graph from
      is : rename name_of from ≡ t

    renames : (t : Triple JsonLdBlank) → Among named t → Renames t
    renames t m =
        let f = Among_of_map (rename name_of) triples t (subst (λ (z : List (Triple JsonLdBlank)). Among z t) are m) in
        record { from = f.0; there = (same f.0).0 f.1; is = f.2 }

    forth_there : (t : Triple JsonLdBlank) → Among named t → Among graph (rename number_of t)
    forth_there t m =
        let r = renames t m in
        subst (Among graph) (sym (triple_again r.from (fine r.from r.there)) ∙ ap (rename number_of) r.is) r.there

    back_there : (u : Triple ℕ) → Among graph u → (t : Triple JsonLdBlank) × Among named t × (rename number_of t ≡ u)
    back_there u m =
        (rename name_of u, subst (λ (z : List (Triple JsonLdBlank)). Among z (rename name_of u)) (sym are) (Among_map (rename name_of) triples u ((same u).1 m)), triple_again u (fine u m))

    has_number : (a : JsonLdBlank) → Has (set_of named) a → Numbered a
    has_number a (t, m, h) =
        let r = renames t m in
        triple_numbered r.from a (fine r.from r.there) (subst (λ (z : Triple JsonLdBlank). Among (blanks_of z) a) (sym r.is) h)

    pub named_back : Renamed (set_of named) (set_of graph)
    named_back = record {
      to = number_of;
      one_to_one = λ a b h k e. sym (number_again a (has_number a h)) ∙ ap name_of e ∙ number_again b (has_number b k);
      forth = forth_there;
      back = back_there;
    }

-- ---- the triples of a list

module _ (list : List (Triple ℕ)) (shapes : ℕ → Shape) (writable : IsWritable list) (each_once : Differ list) (have : HaveShapes list shapes) where
  objects_writable : (t : Triple ℕ) → Among list t → WritableTerm t.object
  objects_writable t m = (writable.parts t m).object

  predicate_iris : (t : Triple ℕ) → Among list t → IsIri t.predicate
  predicate_iris t m = (writable.parts t m).predicate.is_iri

  top_free : (s : Node ℕ) → Among (tops list shapes) s → is_listed shapes list s ≡ false
  top_free s m = untrue (is_listed shapes list s) (Among_of_filter (λ (r : Node ℕ). not (is_listed shapes list r)) (subjects list) s m).1

  node_free : (s : Node ℕ) → WritableNode s → is_listed shapes list s ≡ false → FreeNode list shapes s
  node_free (Iri iri) w h = w.is_iri
  node_free (Blank b) w h = h

  top_node : (s : Node ℕ) → Among (tops list shapes) s → FreeNode list shapes s
  top_node s m =
      let among : Among (map (λ (t : Triple ℕ). t.subject) list) s = Among_of_distinct (same_node nat_eq) (map (λ (t : Triple ℕ). t.subject) list) s (Among_of_filter (λ (r : Node ℕ). not (is_listed shapes list r)) (subjects list) s m).0 in
      let f = Among_of_map (λ (t : Triple ℕ). t.subject) list s among in
      node_free s (subst WritableNode f.2 (writable.parts f.0 f.1).subject) (top_free s m)

  top_there : (t : Triple ℕ) → Among list t → is_listed shapes list t.subject ≡ false → Among (tops list shapes) t.subject
  top_there t m e = Among_filter (λ (r : Node ℕ). not (is_listed shapes list r)) (subjects list) t.subject (subject_there list t m) (ap not e)

  the_docs : Docs list shapes have objects_writable predicate_iris (tops list shapes)
  the_docs = docs list shapes have objects_writable predicate_iris (tops list shapes) (λ s m. (top_free s m, top_node s m)) (of_about list)

  -- ---- the cells

  abbrev cells_about : Node ℕ → List ℕ
  cells_about s = flat_map (cells_at shapes list) (about list s)

  record At (s : Node ℕ) (b : ℕ) : Type 0 where
    triple : Triple ℕ
    there : Among list triple
    of : triple.subject ≡ s
    cell : Among (cells_at shapes list triple) b

  at : (s : Node ℕ) (b : ℕ) → Among (cells_about s) b → At s b
  at s b m =
      let f = Among_of_flat_map (cells_at shapes list) (about list s) b m in
      let o = of_about list s f.0 f.1 in
      record { triple = f.0; there = o.0; of = o.1; cell = f.2 }

  one_at : (b : ℕ) (s : Node ℕ) → times b (cells_about s) ≤ 1
  one_at b s = once_in_all (cells_at shapes list) b (about list s) (differ_filter (has_subject s) list each_once)
      (λ t m. differ_once b (cells_at shapes list t) (chain_differs list (cells_at shapes list t) (cells_chain list shapes have t)))
      (λ t u m n. one_root list shapes have t u b (of_about list s t m).0 (of_about list s u n).0)

  one_subject : (b : ℕ) (r s : Node ℕ) → Among (cells_about r) b → Among (cells_about s) b → r ≡ s
  one_subject b r s m n =
      let x = at r b m in
      let y = at s b n in
      sym x.of ∙ ap (λ (t : Triple ℕ). t.subject) (one_root list shapes have x.triple y.triple b x.there y.there x.cell y.cell) ∙ y.of

  tops_differ : Differ (tops list shapes)
  tops_differ = differ_filter (λ (r : Node ℕ). not (is_listed shapes list r)) (subjects list) (distinct_differ (same_node nat_eq) same_nodes (map (λ (t : Triple ℕ). t.subject) list))

  one_cell : (b : ℕ) → times b the_docs.cells ≤ 1
  one_cell b =
      let most : times b (flat_map cells_about (tops list shapes)) ≤ 1 =
      once_in_all cells_about b (tops list shapes) tops_differ (λ s m. one_at b s) (λ r s m n. one_subject b r s) in
      let same = the_docs.count b in
      omega (arith, most, same)

  cells_differ : Differ the_docs.cells
  cells_differ = once_differ the_docs.cells (λ b m. one_cell b)

  cell_listed : (b : ℕ) → Among the_docs.cells b → Among (listed shapes list) b
  cell_listed b m =
      let some : 1 ≤ times b the_docs.cells = times_there b the_docs.cells m in
      let same = the_docs.count b in
      let s = Among_of_flat_map cells_about (tops list shapes) b (is_there b (flat_map cells_about (tops list shapes)) (omega (arith, some, same))) in
      let x = at s.0 b s.2 in
      to_listed list shapes have x.triple b x.there x.cell

  naming : Naming list shapes (name_of the_docs.cells)
  naming = record {
    free = λ b e.
        let none : contains nat_eq the_docs.cells b ≡ false = false_unless (contains nat_eq the_docs.cells b) (λ h.
        true≢false (sym (there_listed list shapes have b (cell_listed b (Among_by_contains nat_eq exact_numbers the_docs.cells b h))) ∙ e)) in
        ap (λ t. cond t (Place (place_in nat_eq the_docs.cells b)) (label_of b)) none;
  }

  are_named : all_triples Label Place the_docs.doc 0 ≡ map (rename (name_of the_docs.cells)) the_docs.triples
  are_named = the_docs.named (name_of the_docs.cells) naming 0 (stands_from the_docs.cells cells_differ [] the_docs.cells refl)

  -- ---- the triples

  abbrev graph : List (Triple ℕ)
  graph = map proper_triple list

  proper_there : (t u : Triple ℕ) → Among list t → proper_triple t ≡ u → Among graph u
  proper_there t u m e = subst (Among graph) e (Among_map proper_triple list t m)

  cell_there : (cells : List ℕ) → IsChain list cells → (u : Triple ℕ) → Among (cell_triples list shapes cells) u → Among graph u
  cell_there [] links u m = absurd m
  cell_there (b ∷ more) links u (inl e) =
      proper_there (spo (Blank b) rdf_first links.0.of.item) u links.0.of.pair.first (ap (λ o. spo (Blank b) rdf_first (proper_term o)) (sym (item_is list shapes b more links.0)) ∙ e)
  cell_there (b ∷ more) links u (inr (inl e)) =
      proper_there (spo (Blank b) rdf_rest links.0.of.after) u links.0.of.pair.rest (ap (λ o. spo (Blank b) rdf_rest (proper_term o)) links.0.after ∙ e)
  cell_there (b ∷ more) links u (inr (inr m)) = cell_there more links.1 u m

  told_there : (t u : Triple ℕ) → Among list t → Among (told list shapes t) u → Among graph u
  told_there t u m (inl e) = proper_there t u m e
  told_there t u m (inr k) = cell_there (cells_at shapes list t) (cells_chain list shapes have t) u k

  of_docs : (u : Triple ℕ) → Among the_docs.triples u → Among graph u
  of_docs u m =
      let s = the_docs.from u m in
      let t = Among_of_flat_map (told list shapes) (about list s.0) u s.2 in
      told_there t.0 u (of_about list s.0 t.0 t.1).0 t.2

  cell_told : (cells : List ℕ) → IsChain list cells → (b : ℕ) → Among cells b → (u : Triple ℕ) → Among list u → u.subject ≡ Blank b → Among (cell_triples list shapes cells) (proper_triple u)
  cell_told [] links b k u m e = absurd k
  cell_told (c ∷ more) links b (inr k) u m e = inr (inr (cell_told more links.1 b k u m e))
  cell_told (c ∷ more) links b (inl q) u m e = elim (links.0.of.pair.alone u m (e ∙ ap Blank (sym q))) [
    | inl f ↦ inl (ap (λ o. spo (Blank c) rdf_first (proper_term o)) (item_is list shapes c more links.0) ∙ sym (ap proper_triple f))
    | inr f ↦ inr (inl (ap (λ o. spo (Blank c) rdf_rest (proper_term o)) (sym links.0.after) ∙ sym (ap proper_triple f)))
  ]

  put_there : (t : Triple ℕ) (u : Triple ℕ) → Among list t → is_listed shapes list t.subject ≡ false → Among (told list shapes t) u → Among the_docs.triples u
  put_there t u m e k = the_docs.put t.subject u (top_there t m e) (Among_flat_map (told list shapes) (about list t.subject) t u (about_there list t m) k)

  listed_put : (u : Triple ℕ) → Among list u → (s : Node ℕ) → u.subject ≡ s → is_listed shapes list s ≡ true → Among the_docs.triples (proper_triple u)
  listed_put u m (Iri iri) q e = absurd (true≢false (sym e))
  listed_put u m (Blank b) q e =
      let l = of_listed list shapes have b (listed_there list shapes have b e) in
      put_there l.triple (proper_triple u) l.there (root_subject list shapes have b l) (inr (cell_told (cells_at shapes list l.triple) (cells_chain list shapes have l.triple) b l.at u m q))

  in_docs : (u : Triple ℕ) → Among list u → Among the_docs.triples (proper_triple u)
  in_docs u m = by_test (is_listed shapes list u.subject) (λ e. listed_put u m u.subject refl e) (λ e. put_there u (proper_triple u) m e (inl refl))

  same_triples : (u : Triple ℕ) → Among the_docs.triples u ↔ Among graph u
  same_triples u = (of_docs u, λ m. let f = Among_of_map proper_triple list u m in subst (Among the_docs.triples) f.2 (in_docs f.0 f.1))

  term_fine : (o : Term ℕ) → WritableTerm o → FineTerm the_docs.cells (proper_term o)
  term_fine (Resource node) w = w
  term_fine (Literal text kind) w = tt

  triple_fine : (u : Triple ℕ) → Among graph u → FineTriple the_docs.cells u
  triple_fine u m =
      let f = Among_of_map proper_triple list u m in
      let w = writable.parts f.0 f.1 in
      subst (FineTriple the_docs.cells) f.2 (record { subject = w.subject; object = term_fine f.0.object w.object })

  list_denotes : JsonLd (jsonld list shapes) graph
  list_denotes = record {
    document = the_docs.doc;
    spells = (items_of (map (node_value list shapes) (tops list shapes)), refl, the_docs.spelled);
    renamed = named_back the_docs.cells (all_triples Label Place the_docs.doc 0) the_docs.triples graph are_named same_triples triple_fine;
  }

pub value_denotes : ValueDenotes
value_denotes list shapes writable once have =
    list_denotes list shapes writable (subst Differ once (distinct_differ (same_triple nat_eq) (exact_triples nat_eq exact_numbers) list)) have
