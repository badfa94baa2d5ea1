-- The document of a list of triples in which blank nodes are written where they are used, as far as their shapes allow
-- (RDF 1.1 Turtle, 2.7 and 2.8; which nodes are written so is our own choice).
use Rattle.std.specs.Prelude.{ℕ, zero, suc, Bool, true, false, List, [], ◌∷◌, map, filter, flat_map, length, bytes_eq, Option, Some, None, if◌then◌else◌}
use Rattle.rx_model.specs.Common.{Chars, contains, Kind, Plain, Tagged, Typed, Node, Iri, Blank, Term, Resource, Literal, Triple, rdf_type, rdf_first, rdf_rest, rdf_nil}
use Rattle.rx_shapes.specs.declared.shapes.Shape.{Shape}
use Rattle.rx_shapes.specs.declared.shapes.Shape.TheVariants as shape
use Rattle.rx_notation.specs.Short.{Prefix, Prefixes, prefix_of, local_name}
use Rattle.rx_notation.specs.Layout.{in_byte_order}
use Rattle.rx_shapes.specs.Subjects.{subjects, predicates_of, objects_of}
use Rattle.rx_notation.specs.Syntax.{Reference, Full, Short, Subject, Named, Labelled, Verb, By, Type_of, Suffix, Bare, Language, Datatype, Object, Objects, Items, Predicates, Part, IriOrLabel, Quoted, Anonymous, Nil, Bracketed, Collection, Single, Comma, Last, Item, Predicate, Done, Also, Statement, TurtleDocument}
use Rattle.rx_notation.specs.Writing.{Piece, words, subject, verb, quoted, all_pieces, document_text}

-- ---- lists of parts, of which each has at least one

abbrev pub objects_after : (Term ℕ → Part Object) → Term ℕ → List (Term ℕ) → Part Objects
objects_after object first [] = Single (object first)
objects_after object first (next ∷ more) = Comma (object first) (objects_after object next more)

abbrev pub some_objects : (Term ℕ → Part Object) → List (Term ℕ) → Part Objects
some_objects object [] = Single Anonymous
some_objects object (first ∷ more) = objects_after object first more

-- the first of some objects
abbrev pub one_object : (Term ℕ → Part Object) → List (Term ℕ) → Part Object
one_object object [] = Anonymous
one_object object (first ∷ more) = object first

-- an item, and what comes after its cell: another cell, or nothing
abbrev pub items_by : (ℕ → Part Items) → Part Object → List (Term ℕ) → Part Items
items_by cell item [] = Last item
items_by cell item (Resource (Blank number) ∷ more) = Item item (cell number)
items_by cell item (Resource (Iri iri) ∷ more) = Last item
items_by cell item (Literal text kind ∷ more) = Last item

-- a cell, and those behind it, by what the item and the next cell are written as
abbrev pub cell_items : (Term ℕ → Part Object) → (ℕ → Part Items) → List (Triple ℕ) → ℕ → Part Items
cell_items object cell list number = items_by cell (one_object object (objects_of list (Blank number) rdf_first)) (objects_of list (Blank number) rdf_rest)

-- ---- which subjects have statements: all but the nodes that are written where they are used

abbrev pub is_top_by : Shape → Bool
is_top_by shape.Labelled = true
is_top_by shape.Inside = false
is_top_by shape.Cell = false

abbrev pub is_top : (ℕ → Shape) → Node ℕ → Bool
is_top shapes (Iri iri) = true
is_top shapes (Blank number) = is_top_by (shapes number)

-- ---- IRIs

abbrev pub reference_by : Option Prefix → Chars → Reference
reference_by None iri = Full iri
reference_by (Some prefix) iri = Short prefix.0 (local_name prefix iri)

module _ (context : Prefixes) where
  -- an IRI in its short form where it has one
  abbrev pub reference_to : Chars → Reference
  reference_to iri = reference_by (prefix_of context iri) iri

  abbrev pub verb_of : Chars → Verb
  verb_of predicate = if bytes_eq predicate rdf_type then Type_of else By (reference_to predicate)

  abbrev pub suffix_of : Kind → Suffix
  suffix_of Plain = Bare
  suffix_of (Tagged tag) = Language tag
  suffix_of (Typed datatype) = Datatype (reference_to datatype)

  abbrev pub subject_of : Node ℕ → Subject
  subject_of (Iri iri) = Named (reference_to iri)
  subject_of (Blank number) = Labelled number

  -- ---- what is said of a node

  module _ (object : Term ℕ → Part Object) where
    module _ (objects : Chars → List (Term ℕ)) where
      abbrev pub predicates_after : Chars → List Chars → Part Predicates
      predicates_after first [] = Predicate (verb_of first) (some_objects object (objects first)) Done
      predicates_after first (next ∷ more) = Predicate (verb_of first) (some_objects object (objects first)) (Also (predicates_after next more))

      abbrev pub some_predicates : List Chars → Part Predicates
      some_predicates [] = Predicate Type_of (Single Anonymous) Done
      some_predicates (first ∷ more) = predicates_after first more

      -- a node in brackets, of which this is said
      abbrev pub bracketed : List Chars → Part Object
      bracketed [] = Anonymous
      bracketed (first ∷ more) = Bracketed (predicates_after first more)

    abbrev pub said_of : List (Triple ℕ) → Node ℕ → Part Predicates
    said_of list node = some_predicates (objects_of list node) (predicates_of list node)

    abbrev pub inside : List (Triple ℕ) → Node ℕ → Part Object
    inside list node = bracketed (objects_of list node) (predicates_of list node)

  -- ---- what stands where a term is used

  -- where such a term is a blank node, it is written so
  abbrev pub object_by : (ℕ → Part Object) → Term ℕ → Part Object
  object_by node (Resource (Iri iri)) = if bytes_eq iri rdf_nil then Nil else IriOrLabel (Named (reference_to iri))
  object_by node (Resource (Blank number)) = node number
  object_by node (Literal text kind) = Quoted text (suffix_of kind)

  module _ (list : List (Triple ℕ)) (shapes : ℕ → Shape) where
    abbrev pub node_by : (Term ℕ → Part Object) → (ℕ → Part Items) → Shape → ℕ → Part Object
    node_by object cell shape.Labelled number = IriOrLabel (Labelled number)
    node_by object cell shape.Inside number = inside object list (Blank number)
    node_by object cell shape.Cell number = Collection (cell_items object cell list number)

    -- a blank node where it is used, by itself and as a cell among others, in which so many nodes may nest. In a list no
    -- more nest than it has triples
    abbrev pub written : ℕ → ℕ → Part Object × Part Items
    written zero number = (IriOrLabel (Labelled number), Last Anonymous)
    written (suc left) number = (
      node_by (object_by (λ n. (written left n).0)) (λ n. (written left n).1) (shapes number) number,
      cell_items (object_by (λ n. (written left n).0)) (λ n. (written left n).1) list number,
    )

    abbrev pub object_at : Term ℕ → Part Object
    object_at object = object_by (λ n. (written (length list) n).0) object

    -- ---- statements

    abbrev pub statement_of : Node ℕ → Statement
    statement_of node = record { subject = subject_of node; predicates = said_of object_at list node }

    abbrev pub statements : List Statement
    statements = map statement_of (filter (is_top shapes) (subjects list))

-- ---- the prefixes that statements use

abbrev pub prefix_named : Reference → List Chars
prefix_named (Full iri) = []
prefix_named (Short name local) = name ∷ []

abbrev pub names_of_subject : Subject → List Chars
names_of_subject (Named reference) = prefix_named reference
names_of_subject (Labelled number) = []

abbrev pub names_of_verb : Verb → List Chars
names_of_verb (By reference) = prefix_named reference
names_of_verb Type_of = []

abbrev pub names_of_suffix : Suffix → List Chars
names_of_suffix Bare = []
names_of_suffix (Language tag) = []
names_of_suffix (Datatype reference) = prefix_named reference

abbrev pub piece_names : Piece → List Chars
piece_names (words chars) = []
piece_names (subject s) = names_of_subject s
piece_names (verb v) = names_of_verb v
piece_names (quoted text suffix) = names_of_suffix suffix

abbrev pub names_used : List Statement → List Chars
names_used statements = flat_map piece_names (all_pieces statements)

-- the prefixes of these names, in byte order of the names
abbrev pub prefixes_named : Prefixes → List Chars → Prefixes
prefixes_named context names = in_byte_order (filter (λ (prefix : Prefix). contains bytes_eq names prefix.0) context)

-- ---- the text

abbrev pub document_of : Prefixes → List (Triple ℕ) → (ℕ → Shape) → TurtleDocument
document_of context list shapes =
    record { prefixes = prefixes_named context (names_used (statements context list shapes)); statements = statements context list shapes }

-- the nested Turtle text of a list of triples, whose blank nodes have these shapes
abbrev pub nested : Prefixes → List (Triple ℕ) → (ℕ → Shape) → Chars
nested context list shapes = document_text (document_of context list shapes)
