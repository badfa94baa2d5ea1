-- The abstract syntax of a document: the productions of RDF 1.1 Turtle, 6.5, as far as they are read here (own choice):
-- prefixes are declared by `@prefix` before all statements, a subject is an IRI or a labelled blank node, and a literal
-- is quoted.
use Rattle.std.specs.Prelude.{ℕ, Bool, true, false, ◌&&◌, List}
use Rattle.rx_terms.specs.Common.{list_all, Chars}
use Rattle.rx_notation.specs.Short.{Prefixes}

-- [135s] iri: in full, or by the name of a prefix and a local name
pub data Reference : Type 0 where
  Full : Chars → Reference
  Short : Chars → Chars → Reference

-- [10] subject: an IRI, or a blank node by its label
pub data Subject : Type 0 where
  Named : Reference → Subject
  Labelled : ℕ → Subject

-- [9] verb: an IRI, or `a`
pub data Verb : Type 0 where
  By : Reference → Verb
  Type_of : Verb

-- [128s] RDFLiteral: what follows the quotes: nothing, a language tag or a datatype
pub data Suffix : Type 0 where
  Bare : Suffix
  Language : Chars → Suffix
  Datatype : Reference → Suffix

-- what a part of a document is
pub data Sort : Type 0 where
  Object : Sort
  Objects : Sort
  Items : Sort
  Predicates : Sort
  Further : Sort

pub data Part : Sort → Type 0 where
  -- [12] object: what may be a subject, a literal, `[]`, `()`, predicates in brackets, or items in parentheses
  IriOrLabel : Subject → Part Object
  Quoted : Chars → Suffix → Part Object
  Anonymous : Part Object
  Nil : Part Object
  Bracketed : Part Predicates → Part Object
  Collection : Part Items → Part Object
  -- [8] objectList: an object, or one, a comma, and more
  Single : Part Object → Part Objects
  Comma : Part Object → Part Objects → Part Objects
  -- [15] collection: its items, at least one
  Last : Part Object → Part Items
  Item : Part Object → Part Items → Part Items
  -- [7] predicateObjectList: a verb, its objects, and what follows them: nothing, or a semicolon and what follows that,
  -- with or without a predicate
  Predicate : Verb → Part Objects → Part Further → Part Predicates
  Done : Part Further
  Semicolon : Part Further → Part Further
  Also : Part Predicates → Part Further

-- [6] triples
pub record Statement : Type 0 where
  pub subject : Subject
  pub predicates : Part Predicates

-- [1] turtleDoc
pub record TurtleDocument : Type 0 where
  pub prefixes : Prefixes
  pub statements : List Statement

-- no brackets and no parentheses
abbrev pub is_flat : {sort : Sort} → Part sort → Bool
is_flat (IriOrLabel subject) = true
is_flat (Quoted text suffix) = true
is_flat Anonymous = false
is_flat Nil = false
is_flat (Bracketed predicates) = false
is_flat (Collection items) = false
is_flat (Single object) = is_flat object
is_flat (Comma object objects) = is_flat object && is_flat objects
is_flat (Last object) = is_flat object
is_flat (Item object items) = is_flat object && is_flat items
is_flat (Predicate verb objects further) = is_flat objects && is_flat further
is_flat Done = true
is_flat (Semicolon further) = is_flat further
is_flat (Also predicates) = is_flat predicates

abbrev pub are_flat : List Statement → Bool
are_flat statements = list_all (λ (s : Statement). is_flat s.predicates) statements
