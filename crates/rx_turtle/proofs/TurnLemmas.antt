-- What is due comes to the pieces of nested Turtle, turn by turn.
use Rattle.rx_notation.proofs.Common.{◌≡◌, ◌∙◌, ℕ, Bool, true, false, cond, List, [], ◌∷◌, ◌++◌, map, filter, length, codes, bytes_eq, Option, Some, None, refl, sym, ap, ap₂, subst, inl, inr, Chars, Among, Node, Iri, Blank, Term, Resource, Literal, Triple, set_of, rdf_first, rdf_rest, rdf_nil, Cell, IsShape, HaveShapes, Shape, about, has_predicate, predicates_of, objects_of, first_member, object_at, CellOf, cell_of, predicate_says, Prefixes, reference_to, verb_of, subject_of, objects_after, some_objects, predicates_after, bracketed, some_predicates, one_object, items_by, node_by, object_by, written, statement_of, Piece, words, subject, verb, inside_gap, line_gap, pieces, statement_pieces}
use Rattle.rx_turtle.proofs.Common.{Keyed, has_key, Shown, Fixed, IriOrLabel, words_text, piece_of, Due, Say, Object, After, behind, parted, object_due, objects_due, line_due, lines_due, bracket_due, item_due, rest_due, iri_due, statement_due, cell_due, node_due, term_due, opened, AreCells, one_due, due_pieces}
use Rattle.rx_terms.proofs.Bools.{by_test}
use Rattle.rx_shapes.specs.declared.shapes.Shape.TheVariants as shape
use Rattle.rx_notation.specs.Syntax.{Named, Object as An_object, Items, Part, Nil}
use Rattle.rx_notation.specs.Nesting as nesting
use Rattle.rx_notation.proofs.CellParts.{rests}
use Rattle.rx_notation.proofs.Unfolded.{node_unfolds, cell_unfolds}
use Rattle.rx_turtle.specs.declared.keys.By.TheVariants as by
use Rattle.rx_turtle.specs.declared.tokens.Words.{Words}
use Rattle.rx_turtle.specs.declared.tokens.Words.TheVariants as fixed
use Rattle.rx_turtle.specs.Said.{said_of}
use Rattle.rx_turtle.proofs.GroupLemmas.{map_twice, keys_are}

-- ---- parts of the document come to what is due of them

module _ (context : Prefixes) (list : List (Triple ℕ)) (shapes : ℕ → Shape) where
  abbrev comes : List Due → List Piece → List Piece
  comes due rest = due_pieces context list shapes due rest

  both_come : (xs ys : List Due) (rest : List Piece) → comes (xs ++ ys) rest ≡ comes xs (comes ys rest)
  both_come [] ys rest = refl
  both_come (x ∷ xs) ys rest = ap (one_due context list shapes x) (both_come xs ys rest)

  abbrev part_of : Term ℕ → Part An_object
  part_of o = nesting.object_at context list shapes o

  abbrev cell : ℕ → Part Items
  cell n = (written context list shapes (length list) n).1

  abbrev object_of : Triple ℕ → Term ℕ
  object_of t = t.object

  objects_behind : (t : Triple ℕ) (more : List (Triple ℕ)) (rest : List Piece) → pieces inside_gap (objects_after part_of t.object (map object_of more)) rest ≡ comes (objects_due (t ∷ more)) rest
  objects_behind t [] rest = refl
  objects_behind t (next ∷ more) rest = ap (λ z. pieces inside_gap (part_of t.object) (words (codes " , ") ∷ z)) (objects_behind next more rest)

  -- a predicate has objects
  objects_come : (triples : List (Triple ℕ)) (o : Term ℕ) → Among (map object_of triples) o → (rest : List Piece) → pieces inside_gap (some_objects part_of (map object_of triples)) rest ≡ comes (objects_due triples) rest
  objects_come [] o m rest = absurd m
  objects_come (t ∷ triples) o m rest = objects_behind t triples rest

  module _ (those : Chars → List (Triple ℕ)) (some : Chars → Type 0) (has : (p : Chars) → some p → (o : Term ℕ) × Among (map object_of (those p)) o) where
    abbrev objects : Chars → List (Term ℕ)
    objects p = map object_of (those p)

    abbrev groups : List Chars → List Keyed
    groups ps = map {B = Keyed} (λ p. (Iri p, those p)) ps

    abbrev All : List Chars → Type 0
    All ps = (p : Chars) → Among ps p → some p

    line_comes : (p : Chars) → some p → (due : List Due) (rest : List Piece)
        → verb (verb_of context p) ∷ words (codes " ") ∷ pieces inside_gap (some_objects part_of (objects p)) (comes due rest) ≡ comes (line_due (Iri p, those p) ++ due) rest
    line_comes p h due rest =
        let o = has p h in
        ap (λ z. verb (verb_of context p) ∷ words (codes " ") ∷ z) (objects_come (those p) o.0 o.1 (comes due rest) ∙ sym (both_come (objects_due (those p)) due rest))

    lines_come : (g : Words) (gap : Chars) → words_text g ≡ codes " ;" ++ gap → (p : Chars) (ps : List Chars) → All (p ∷ ps) → (rest : List Piece)
        → pieces gap (predicates_after context part_of objects p ps) rest ≡ comes (lines_due g (groups (p ∷ ps))) rest
    lines_come g gap e p [] h rest = line_comes p (h p (inl refl)) [] rest
    lines_come g gap e p (next ∷ ps) h rest =
        ap₂ (λ (w : Chars) (z : List Piece). verb (verb_of context p) ∷ words (codes " ") ∷ pieces inside_gap (some_objects part_of (objects p)) (words w ∷ z)) (sym e) (lines_come g gap e next ps (λ q m. h q (inr m)) rest)
        ∙ line_comes p (h p (inl refl)) (behind line_due g (groups (next ∷ ps))) rest

    brackets_come : (ps : List Chars) → All ps → (rest : List Piece) → pieces inside_gap (bracketed context part_of objects ps) rest ≡ comes (bracket_due (groups ps)) rest
    brackets_come [] h rest = refl
    brackets_come (p ∷ ps) h rest =
        ap (λ z. words (codes "[ ") ∷ z)
        (lines_come fixed.InsideGap inside_gap refl p ps h (words (codes " ]") ∷ rest) ∙ sym (both_come (lines_due fixed.InsideGap (groups (p ∷ ps))) (Say (Fixed fixed.Close) ∷ []) rest))

    said_come : (ps : List Chars) (p : Chars) → Among ps p → All ps → (rest : List Piece) → pieces line_gap (some_predicates context part_of objects ps) rest ≡ comes (lines_due fixed.LineGap (groups ps)) rest
    said_come [] p m h rest = absurd m
    said_come (first ∷ ps) p m h rest = lines_come fixed.LineGap line_gap refl first ps h rest

  abbrev about_of : Node ℕ → Chars → List (Triple ℕ)
  about_of node p = filter (has_predicate p) (about list node)

  groups_are : (node : Node ℕ) → said_of list node ≡ map {B = Keyed} (λ p. (Iri p, about_of node p)) (predicates_of list node)
  groups_are node =
      ap (map {B = Keyed} (λ key. (key, filter (has_key by.Predicate key) (about list node)))) (keys_are list node)
      ∙ map_twice {C = Keyed} (λ key. (key, filter (has_key by.Predicate key) (about list node))) (λ p. Iri p) (predicates_of list node)

  inside_comes : (node : Node ℕ) (rest : List Piece) → pieces inside_gap (nesting.inside context part_of list node) rest ≡ comes (bracket_due (said_of list node)) rest
  inside_comes node rest =
      brackets_come (about_of node) (Among (predicates_of list node)) (λ p m. predicate_says list node p m) (predicates_of list node) (λ p m. m) rest
      ∙ ap (λ (z : List Keyed). comes (bracket_due z) rest) (sym (groups_are node))

  pub statement_comes : (node : Node ℕ) (p : Chars) → Among (predicates_of list node) p → (rest : List Piece) → comes (statement_due node (said_of list node)) rest ≡ statement_pieces (statement_of context list shapes node) rest
  statement_comes node p m rest =
      ap (λ z. subject (subject_of context node) ∷ words (codes " ") ∷ z)
      (both_come (lines_due fixed.LineGap (said_of list node)) (Say (Fixed fixed.End) ∷ []) rest
      ∙ ap (λ (z : List Keyed). comes (lines_due fixed.LineGap z) (words (codes " .\n") ∷ rest)) (groups_are node)
      ∙ sym (said_come (about_of node) (Among (predicates_of list node)) (λ q n. predicate_says list node q n) (predicates_of list node) p m (λ q n. n) (words (codes " .\n") ∷ rest)))

  items_come : (firsts rests : List (Term ℕ)) (rest : List Piece) → pieces inside_gap (items_by cell (one_object part_of firsts) rests) rest ≡ comes (item_due (first_member firsts) ++ rest_due (first_member rests)) rest
  items_come [] (Resource (Blank number) ∷ more) rest = refl
  items_come (first ∷ others) (Resource (Blank number) ∷ more) rest = refl
  items_come _ _ rest = refl

  cells_come : (number : ℕ) (rest : List Piece) → pieces inside_gap (nesting.cell_items part_of cell list number) rest ≡ comes (cell_due list number) rest
  cells_come number rest = items_come (objects_of list (Blank number) rdf_first) (objects_of list (Blank number) rdf_rest) rest

  node_comes : (s : Shape) (number : ℕ) (rest : List Piece) → pieces inside_gap (node_by context list shapes part_of cell s number) rest ≡ comes (node_due list s number) rest
  node_comes shape.Labelled number rest = refl
  node_comes shape.Inside number rest = inside_comes (Blank number) rest
  node_comes shape.Cell number rest =
      ap (λ z. words (codes "( ") ∷ z) (cells_come number (words (codes " )") ∷ rest) ∙ sym (both_come (cell_due list number) (Say (Fixed fixed.CloseList) ∷ []) rest))

-- ---- what comes after an item is a cell

cells_both : (list : List (Triple ℕ)) (xs ys : List Due) → AreCells list xs → AreCells list ys → AreCells list (xs ++ ys)
cells_both list [] ys h k = k
cells_both list (Say token ∷ xs) ys h k = cells_both list xs ys h k
cells_both list (Object o ∷ xs) ys h k = cells_both list xs ys h k
cells_both list (After number ∷ xs) ys h k = (h.0, cells_both list xs ys h.1 k)

module _ (list : List (Triple ℕ)) where
  module _ {A : Type 0} (one : A → List Due) (gap : Words) (each : (a : A) → AreCells list (one a)) where
    behind_cells : (some : List A) → AreCells list (behind one gap some)
    behind_cells [] = tt
    behind_cells (a ∷ some) = cells_both list (one a) (behind one gap some) (each a) (behind_cells some)

    parted_cells : (some : List A) → AreCells list (parted one gap some)
    parted_cells [] = tt
    parted_cells (a ∷ some) = cells_both list (one a) (behind one gap some) (each a) (behind_cells some)

  line_cells : (group : Keyed) → AreCells list (line_due group)
  line_cells group = parted_cells object_due fixed.Comma (λ t. tt) group.1

  bracket_cells : (groups : List Keyed) → AreCells list (bracket_due groups)
  bracket_cells [] = tt
  bracket_cells (group ∷ more) = cells_both list (lines_due fixed.InsideGap (group ∷ more)) (Say (Fixed fixed.Close) ∷ []) (parted_cells line_due fixed.InsideGap line_cells (group ∷ more)) tt

  pub statement_cells : (node : Node ℕ) (groups : List Keyed) → AreCells list (statement_due node groups)
  statement_cells node groups = cells_both list (lines_due fixed.LineGap groups) (Say (Fixed fixed.End) ∷ []) (parted_cells line_due fixed.LineGap line_cells groups) tt

  item_cells : (o : Option (Term ℕ)) → AreCells list (item_due o)
  item_cells None = tt
  item_cells (Some o) = tt

  rest_cells : (number : ℕ) → CellOf list number → AreCells list (rest_due (object_at list (Blank number) rdf_rest))
  rest_cells number c =
      subst (λ (os : List (Term ℕ)). AreCells list (rest_due (first_member os))) (sym (rests list number c).1) (elim c.next [
        | inl e ↦ subst (λ (z : Term ℕ). AreCells list (rest_due (Some z))) (sym e) tt
        | inr d ↦ subst (λ (z : Term ℕ). AreCells list (rest_due (Some z))) (sym d.1) (d.2, tt)
      ])

  cell_cells : (number : ℕ) → Cell (set_of list) number → AreCells list (cell_due list number)
  cell_cells number h =
      cells_both list (item_due (object_at list (Blank number) rdf_first)) (rest_due (object_at list (Blank number) rdf_rest))
      (item_cells (object_at list (Blank number) rdf_first)) (rest_cells number (cell_of list number h))

  node_cells : (s : Shape) (number : ℕ) → IsShape (set_of list) number s → AreCells list (node_due list s number)
  node_cells shape.Labelled number h = tt
  node_cells shape.Inside number h = bracket_cells (said_of list (Blank number))
  node_cells shape.Cell number h = cells_both list (cell_due list number) (Say (Fixed fixed.CloseList) ∷ []) (cell_cells number h) tt

  iri_cells : (iri : Chars) → AreCells list (iri_due iri)
  iri_cells iri = by_test (bytes_eq iri rdf_nil) (λ e. rw e tt) (λ e. rw e tt)

  module _ (shapes : ℕ → Shape) (have : HaveShapes list shapes) where
    term_cells : (o : Term ℕ) → AreCells list (term_due list shapes o)
    term_cells (Resource (Iri iri)) = iri_cells iri
    term_cells (Resource (Blank number)) = node_cells (shapes number) number (have number)
    term_cells (Literal text kind) = tt

    opened_cells : (d : Due) (more : List Due) → AreCells list (d ∷ more) → AreCells list (opened list shapes d ++ more)
    opened_cells (Say token) more h = h
    opened_cells (Object o) more h = cells_both list (term_due list shapes o) more (term_cells o) h
    opened_cells (After number) more h = cells_both list (cell_due list number) more (cell_cells number h.0) h.1

    pub cells_turn : (d : Due) (token : Shown) (more new : List Due) → AreCells list (d ∷ more) → Say token ∷ new ≡ opened list shapes d ++ more → AreCells list new
    cells_turn d token more new h e = subst (AreCells list) (sym e) (opened_cells d more h)

    -- ---- a task comes to its token and what it leaves

    module _ (context : Prefixes) where
      opened_comes : (d : Due) (more : List Due) → AreCells list (d ∷ more) → (rest : List Piece) → one_due context list shapes d rest ≡ due_pieces context list shapes (opened list shapes d) rest
      opened_comes (Say token) more h rest = refl
      opened_comes (Object (Resource (Iri iri))) more h rest = by_test (bytes_eq iri rdf_nil) (λ e. rw e refl) (λ e. rw e refl)
      opened_comes (Object (Resource (Blank number))) more h rest =
          ap (λ (z : Part An_object). pieces inside_gap z rest) (node_unfolds context list shapes have number) ∙ node_comes context list shapes (shapes number) number rest
      opened_comes (Object (Literal text kind)) more h rest = refl
      opened_comes (After number) more h rest =
          ap (λ (z : Part Items). words (codes " ") ∷ pieces inside_gap z rest) (cell_unfolds context list shapes have number h.0) ∙ ap (λ z. words (codes " ") ∷ z) (cells_come context list shapes number rest)

      pub comes_turn : (d : Due) (token : Shown) (more new : List Due) → AreCells list (d ∷ more) → Say token ∷ new ≡ opened list shapes d ++ more → (rest : List Piece)
          → due_pieces context list shapes (d ∷ more) rest ≡ piece_of context token ∷ due_pieces context list shapes new rest
      comes_turn d token more new h e rest =
          opened_comes d more h (due_pieces context list shapes more rest) ∙ sym (both_come context list shapes (opened list shapes d) more rest) ∙ ap (λ z. due_pieces context list shapes z rest) (sym e)
