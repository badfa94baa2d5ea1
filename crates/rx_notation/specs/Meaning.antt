-- What a document denotes: RDF 1.1 Turtle, 7.
use Rattle.std.specs.Prelude.{◌≡◌, ◌↔◌, ℕ, suc, ◌+◌, Bool, true, ◌&&◌, List, [], ◌∷◌, ◌++◌, bytes_eq, if◌then◌else◌}
use Rattle.rx_model.specs.Common.{list_all, list_any, Chars, Among, Kind, Plain, Tagged, Node, Iri, Blank, Term, Resource, Literal, Triple, set_of, spo, rdf_type, rdf_first, rdf_rest, rdf_nil, Renamed}
use Rattle.rx_nquads.specs.Quads.{literal_kind}
use Rattle.rx_notation.specs.Short.{Prefix, Prefixes}
use Rattle.rx_notation.specs.Syntax.{Reference, Full, Short, Subject, Named, Labelled, Verb, By, Type_of, Suffix, Bare, Language, Datatype, Sort, Object, Objects, Items, Predicates, Further, Part, IriOrLabel, Quoted, Anonymous, Nil, Bracketed, Collection, Single, Comma, Last, Item, Predicate, Done, Semicolon, Also, Statement, TurtleDocument, are_flat}
use Rattle.rx_notation.specs.Spelling.{SpellsTurtle}

-- ---- IRIs

-- the IRI that a name is declared for
abbrev pub iri_at : Prefixes → Chars → Chars
iri_at [] name = []
iri_at (prefix ∷ more) name = if bytes_eq prefix.0 name then prefix.1 else iri_at more name

module _ (prefixes : Prefixes) where
  -- 6.3: a short form stands for the prefix's IRI and the local name behind it
  abbrev pub iri_of : Reference → Chars
  iri_of (Full iri) = iri
  iri_of (Short name local) = iri_at prefixes name ++ local

  -- the name of the prefix is declared
  abbrev pub is_known : Reference → Bool
  is_known (Full iri) = true
  is_known (Short name local) = list_any (λ (prefix : Prefix). bytes_eq prefix.0 name) prefixes

  abbrev pub is_known_subject : Subject → Bool
  is_known_subject (Named reference) = is_known reference
  is_known_subject (Labelled number) = true

  abbrev pub is_known_verb : Verb → Bool
  is_known_verb (By reference) = is_known reference
  is_known_verb Type_of = true

  abbrev pub is_known_suffix : Suffix → Bool
  is_known_suffix Bare = true
  is_known_suffix (Language tag) = true
  is_known_suffix (Datatype reference) = is_known reference

  -- the name of each prefix in the part is declared
  abbrev pub all_known : {sort : Sort} → Part sort → Bool
  all_known (IriOrLabel subject) = is_known_subject subject
  all_known (Quoted text suffix) = is_known_suffix suffix
  all_known Anonymous = true
  all_known Nil = true
  all_known (Bracketed predicates) = all_known predicates
  all_known (Collection items) = all_known items
  all_known (Single object) = all_known object
  all_known (Comma object objects) = all_known object && all_known objects
  all_known (Last object) = all_known object
  all_known (Item object items) = all_known object && all_known items
  all_known (Predicate verb objects further) = is_known_verb verb && (all_known objects && all_known further)
  all_known Done = true
  all_known (Semicolon further) = all_known further
  all_known (Also predicates) = all_known predicates

  abbrev pub are_known : List Statement → Bool
  are_known statements = list_all (λ (s : Statement). is_known_subject s.subject && all_known s.predicates) statements

  abbrev pub predicate_of : Verb → Chars
  predicate_of (By reference) = iri_of reference
  predicate_of Type_of = rdf_type

  abbrev pub kind_by : Suffix → Kind
  kind_by Bare = Plain
  kind_by (Language tag) = Tagged tag
  kind_by (Datatype reference) = literal_kind (iri_of reference)

-- ---- triples

-- how many blank nodes without a label the part has: `[]`, brackets, and a cell for each item of a collection
abbrev pub unlabelled : {sort : Sort} → Part sort → ℕ
unlabelled (IriOrLabel subject) = 0
unlabelled (Quoted text suffix) = 0
unlabelled Anonymous = 1
unlabelled Nil = 0
unlabelled (Bracketed predicates) = suc (unlabelled predicates)
unlabelled (Collection items) = unlabelled items
unlabelled (Single object) = unlabelled object
unlabelled (Comma object objects) = unlabelled object + unlabelled objects
unlabelled (Last object) = suc (unlabelled object)
unlabelled (Item object items) = suc (unlabelled object) + unlabelled items
unlabelled (Predicate verb objects further) = unlabelled objects + unlabelled further
unlabelled Done = 0
unlabelled (Semicolon further) = unlabelled further
unlabelled (Also predicates) = unlabelled predicates

-- what a part is said of: objects of a subject and a predicate, predicates of a subject
abbrev pub Of : Type 0 → Sort → Type 0
Of B Object = Unit {0}
Of B Objects = Node B × Chars
Of B Items = Unit {0}
Of B Predicates = Node B
Of B Further = Node B

-- Blank nodes get their names from their label's number, or, where they have no label, from their place among those
-- that have none.
module _ {B : Type 0} (prefixes : Prefixes) (label place : ℕ → B) where
  abbrev pub node_of : Subject → Node B
  node_of (Named reference) = Iri (iri_of prefixes reference)
  node_of (Labelled number) = Blank (label number)

  -- what the object is, where its first blank node without a label has the place `n`: brackets are a blank node, a
  -- collection is its first cell, and an empty one rdf:nil
  abbrev pub term_of : Part Object → ℕ → Term B
  term_of (IriOrLabel subject) n = Resource (node_of subject)
  term_of (Quoted text suffix) n = Literal text (kind_by prefixes suffix)
  term_of Anonymous n = Resource (Blank (place n))
  term_of Nil n = Resource (Iri rdf_nil)
  term_of (Bracketed predicates) n = Resource (Blank (place n))
  term_of (Collection items) n = Resource (Blank (place n))

  -- the triples of a part whose first blank node without a label has the place `n`
  abbrev pub triples : {sort : Sort} → Part sort → Of B sort → ℕ → List (Triple B)
  triples (IriOrLabel subject) of n = []
  triples (Quoted text suffix) of n = []
  triples Anonymous of n = []
  triples Nil of n = []
  triples (Bracketed predicates) of n = triples predicates (Blank (place n)) (suc n)
  triples (Collection items) of n = triples items tt n
  triples (Single object) of n = spo of.0 of.1 (term_of object n) ∷ triples object tt n
  triples (Comma object objects) of n = spo of.0 of.1 (term_of object n) ∷ (triples object tt n ++ triples objects of (n + unlabelled object))
  triples (Last object) of n =
      spo (Blank (place n)) rdf_first (term_of object (suc n)) ∷ (triples object tt (suc n) ++ spo (Blank (place n)) rdf_rest (Resource (Iri rdf_nil)) ∷ [])
  triples (Item object items) of n =
      let next : ℕ = suc n + unlabelled object in
      spo (Blank (place n)) rdf_first (term_of object (suc n))
      ∷ (triples object tt (suc n) ++ spo (Blank (place n)) rdf_rest (Resource (Blank (place next))) ∷ triples items tt next)
  triples (Predicate verb objects further) of n = triples objects (of, predicate_of prefixes verb) n ++ triples further of (n + unlabelled objects)
  triples Done of n = []
  triples (Semicolon further) of n = triples further of n
  triples (Also predicates) of n = triples predicates of n

  abbrev pub all_triples : List Statement → ℕ → List (Triple B)
  all_triples [] n = []
  all_triples (s ∷ more) n = triples s.predicates (node_of s.subject) n ++ all_triples more (n + unlabelled s.predicates)

-- ---- what a text denotes

-- The text denotes the set of these triples: it is that of a document without brackets and parentheses, whose prefixes are
-- all declared, and the triples are the document's. Blank nodes are named by their labels.
pub record Turtle (text : Chars) (graph : List (Triple ℕ)) : Type 0 where
  pub document : TurtleDocument
  pub spells : SpellsTurtle text document
  pub flat : are_flat document.statements ≡ true
  pub known : are_known document.prefixes document.statements ≡ true
  pub stated : (t : Triple ℕ) → Among graph t ↔ Among (all_triples document.prefixes (λ number. number) (λ n. n) document.statements 0) t

-- the blank nodes of a document
pub data TurtleBlank : Type 0 where
  Label : ℕ → TurtleBlank
  Place : ℕ → TurtleBlank

-- The same with brackets and parentheses, each of which stands for new blank nodes: the graph is the document's with its
-- blank nodes renamed one to one.
pub record NestedTurtle (text : Chars) (graph : List (Triple ℕ)) : Type 0 where
  pub document : TurtleDocument
  pub spells : SpellsTurtle text document
  pub known : are_known document.prefixes document.statements ≡ true
  pub renamed : Renamed (set_of (all_triples document.prefixes Label Place document.statements 0)) (set_of graph)

-- law: a text without brackets and parentheses denotes at most one set
abbrev pub TurtleDenotesOne : Type 0
TurtleDenotesOne = (text : Chars) (xs ys : List (Triple ℕ)) → Turtle text xs → Turtle text ys → (t : Triple ℕ) → Among xs t ↔ Among ys t

-- law: two graphs that one text denotes differ in the names of blank nodes alone
abbrev pub NestedDenotesOne : Type 0
NestedDenotesOne = (text : Chars) (xs ys : List (Triple ℕ)) → NestedTurtle text xs → NestedTurtle text ys → Renamed (set_of xs) (set_of ys)

-- law: what a text without brackets and parentheses denotes it denotes as one that may have them
abbrev pub FlatIsNested : Type 0
FlatIsNested = (text : Chars) (graph : List (Triple ℕ)) → Turtle text graph → NestedTurtle text graph
