-- The document of the flat layout, and that the layout is its text.
use Rattle.rx_notation.proofs.Common.{◌≡◌, ◌∙◌, ℕ, true, List, [], ◌∷◌, ◌++◌, map, flat_map, codes, bytes_eq, refl, sym, ap, ap₂, inl, inr, append_assoc, and_from, Chars, Among, Kind, Typed, Node, Iri, Blank, Term, Resource, Literal, Triple, rdf_type, string_text, subjects, objects_of, predicates_of, subject_says, predicate_says, Prefixes, Sort, Object, Objects, Part, IriOrLabel, Quoted, Statement, TurtleDocument, is_flat, are_flat, reference_to, verb_of, suffix_of, subject_of, objects_after, some_objects, predicates_after, some_predicates, said_of}
use Rattle.rx_terms.proofs.Bools.{by_test}
use Rattle.rx_notation.specs.Layout as flat
use Rattle.rx_notation.specs.Writing.{Piece, words, reference_text, subject_text, verb_text, suffix_text, inside_gap, line_gap, pieces, all_pieces, document_text}
use Rattle.rx_notation.proofs.Chosen.{by_prefix}
use Rattle.rx_notation.proofs.Spelled.{texts}

module _ (context : Prefixes) where
  abbrev pub object_for : Term ℕ → Part Object
  object_for (Resource node) = IriOrLabel (subject_of context node)
  object_for (Literal text kind) = Quoted text (suffix_of context kind)

  abbrev pub statement_for : List (Triple ℕ) → Node ℕ → Statement
  statement_for list node = record { subject = subject_of context node; predicates = said_of context object_for list node }

  abbrev pub laid_out : List (Triple ℕ) → TurtleDocument
  laid_out list = record { prefixes = flat.prefixes_used context list; statements = map (statement_for list) (subjects list) }

  -- ---- texts of terms

  pub reference_is : (iri : Chars) → reference_text (reference_to context iri) ≡ flat.short_iri context iri
  reference_is iri = by_prefix context iri (λ e. rw e refl) (λ p e. rw e refl)

  subject_is : (node : Node ℕ) → subject_text (subject_of context node) ≡ flat.resource_text context node
  subject_is (Iri iri) = reference_is iri
  subject_is (Blank number) = refl

  pub verb_is : (p : Chars) → verb_text (verb_of context p) ≡ flat.short_predicate context p
  verb_is p = by_test (bytes_eq p rdf_type) (λ e. rw e refl) (λ e. rw e (reference_is p))

  pub suffix_is : (kind : Kind) → suffix_text (suffix_of context kind) ≡ flat.kind_suffix context kind
  suffix_is (Typed datatype) = ap (λ z. codes "^^" ++ z) (reference_is datatype)
  suffix_is _ = refl

  -- the part has no brackets and no parentheses, and this text
  record Laid {sort : Sort} (gap : Chars) (part : Part sort) (text : Chars) : Type 0 where
    level : is_flat part ≡ true
    text_is : (rest : List Piece) → texts (pieces gap part rest) ≡ text ++ texts rest

  object_laid : (o : Term ℕ) (gap : Chars) → Laid gap (object_for o) (flat.object_text context o)
  object_laid (Resource node) gap = record { level = refl; text_is = λ rest. ap (λ z. z ++ texts rest) (subject_is node) }
  object_laid (Literal text kind) gap = record { level = refl; text_is = λ rest. ap (λ z. (string_text text ++ z) ++ texts rest) (suffix_is kind) }

  -- ---- lists

  abbrev commas : List (Term ℕ) → Chars
  commas more = flat_map (λ next. codes " , " ++ next) (map (flat.object_text context) more)

  objects_laid : (o : Term ℕ) (more : List (Term ℕ)) (gap : Chars) → Laid gap (objects_after object_for o more) (flat.object_text context o ++ commas more)
  objects_laid o [] gap = record { level = (object_laid o gap).level; text_is = λ rest. (object_laid o gap).text_is rest ∙ sym (append_assoc (flat.object_text context o) [] (texts rest)) }
  objects_laid o (next ∷ more) gap =
      let first = object_laid o gap in let behind = objects_laid next more gap in
      record {
        level = and_from _ _ first.level behind.level;
        text_is = λ rest. first.text_is (words (codes " , ") ∷ pieces gap (objects_after object_for next more) rest)
            ∙ ap (λ z. flat.object_text context o ++ (codes " , " ++ z)) (behind.text_is rest)
            ∙ sym (append_assoc (flat.object_text context o) (codes " , " ++ (flat.object_text context next ++ commas more)) (texts rest));
      }

  abbrev some_text : List (Term ℕ) → Chars
  some_text objects = flat.separated (codes " , ") (map (flat.object_text context) objects)

  some_objects_laid : (objects : List (Term ℕ)) → (o : Term ℕ) × Among objects o → (gap : Chars) → Laid gap (some_objects object_for objects) (some_text objects)
  some_objects_laid [] some gap = absurd some.1
  some_objects_laid (o ∷ more) some gap = objects_laid o more gap

  module _ (objects : Chars → List (Term ℕ)) where
    -- each of these predicates has an object
    abbrev HaveObjects : List Chars → Type 0
    HaveObjects ps = (p : Chars) → Among ps p → (o : Term ℕ) × Among (objects p) o

    -- a predicate and its objects
    abbrev line : Chars → Chars
    line p = flat.short_predicate context p ++ (codes " " ++ some_text (objects p))

    abbrev semicolons : List Chars → Chars
    semicolons more = flat_map (λ next. codes " ;\n    " ++ next) (map line more)

    abbrev line_part : Chars → Part Objects
    line_part p = some_objects object_for (objects p)

    line_is : (p : Chars) → Laid inside_gap (line_part p) (some_text (objects p)) → (rest : List Piece) → verb_text (verb_of context p) ++ (codes " " ++ texts (pieces inside_gap (line_part p) rest)) ≡ line p ++ texts rest
    line_is p laid rest =
        ap₂ (λ v os. v ++ (codes " " ++ os)) (verb_is p) (laid.text_is rest) ∙ sym (append_assoc (flat.short_predicate context p) (codes " " ++ some_text (objects p)) (texts rest))

    predicates_laid : (p : Chars) (more : List Chars) → HaveObjects (p ∷ more) → Laid line_gap (predicates_after context object_for objects p more) (line p ++ semicolons more)
    predicates_laid p [] some =
        let first = some_objects_laid (objects p) (some p (inl refl)) inside_gap in
        record { level = and_from _ _ first.level refl; text_is = λ rest. line_is p first rest ∙ sym (append_assoc (line p) [] (texts rest)) }
    predicates_laid p (next ∷ more) some =
        let first = some_objects_laid (objects p) (some p (inl refl)) inside_gap in
        let behind = predicates_laid next more (λ q m. some q (inr m)) in
        record {
          level = and_from _ _ first.level behind.level;
          text_is = λ rest. line_is p first (words (codes " ;\n    ") ∷ pieces line_gap (predicates_after context object_for objects next more) rest)
              ∙ ap (λ z. line p ++ (codes " ;\n    " ++ z)) (behind.text_is rest)
              ∙ sym (append_assoc (line p) (codes " ;\n    " ++ (line next ++ semicolons more)) (texts rest));
        }

    some_predicates_laid : (ps : List Chars) → (p : Chars) × Among ps p → HaveObjects ps → Laid line_gap (some_predicates context object_for objects ps) (flat.separated (codes " ;\n    ") (map line ps))
    some_predicates_laid [] some have = absurd some.1
    some_predicates_laid (p ∷ more) some have = predicates_laid p more have

  -- ---- statements

  module _ (list : List (Triple ℕ)) where
    statements_laid : (nodes : List (Node ℕ)) → ((s : Node ℕ) → Among nodes s → Among (subjects list) s)
        → (are_flat (map (statement_for list) nodes) ≡ true) × (texts (all_pieces (map (statement_for list) nodes)) ≡ flat_map (flat.statement_text context list) nodes)
    statements_laid [] there = (refl, refl)
    statements_laid (s ∷ nodes) there =
        let said : Chars = flat.separated (codes " ;\n    ") (map (line (objects_of list s)) (predicates_of list s)) in
        let rest : List Piece = all_pieces (map (statement_for list) nodes) in
        let first = some_predicates_laid (objects_of list s) (predicates_of list s) (subject_says list s (there s (inl refl))) (predicate_says list s) in
        let behind = statements_laid nodes (λ r m. there r (inr m)) in (
          and_from _ _ first.level behind.0,
          ap₂ (λ a b. a ++ (codes " " ++ b)) (subject_is s) (first.text_is (words (codes " .\n") ∷ rest) ∙ sym (append_assoc said (codes " .\n") (texts rest)))
              ∙ sym (append_assoc (flat.resource_text context s) (codes " " ++ (said ++ codes " .\n")) (texts rest))
              ∙ ap (λ z. flat.statement_text context list s ++ z) behind.1,
        )

    pub text_is : document_text (laid_out list) ≡ flat.turtle context list
    text_is = ap (λ z. flat.prefixes_text (flat.prefixes_used context list) ++ z) (statements_laid (subjects list) (λ s m. m)).1

    pub is_laid_flat : are_flat (laid_out list).statements ≡ true
    is_laid_flat = (statements_laid (subjects list) (λ s m. m)).0
