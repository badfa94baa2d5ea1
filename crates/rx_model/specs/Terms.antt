-- RDF 1.1 Concepts, 3: terms, triples and graphs, over any type B of blank nodes.
use Rattle.std.specs.Prelude.{◌≢◌, Bool, true, false, ◌&&◌, List, bytes_eq}
use Rattle.rx_terms.specs.Text.{Chars}
use Rattle.rx_terms.specs.Literal.{xsd_string}
use Rattle.rx_model.specs.Sets.{Among}

-- 3.3: what a literal has beside its characters: nothing (then it is an xsd:string), a language tag, or another datatype
pub data Kind : Type 0 where
  Plain : Kind
  Tagged : Chars → Kind
  Typed : Chars → Kind

-- what may be a triple's subject: an IRI or a blank node
pub data Node (B : Type 0) : Type 0 where
  Iri : Chars → Node B
  Blank : B → Node B

-- what may be a triple's object: an IRI or a blank node, or a literal
pub data Term (B : Type 0) : Type 0 where
  Resource : Node B → Term B
  Literal : Chars → Kind → Term B

-- 3.1
pub record Triple (B : Type 0) : Type 0 where
  pub subject : Node B
  pub predicate : Chars
  pub object : Term B

-- 3: a graph is a set of triples
abbrev pub Graph : Type 0 → Type 1
Graph B = Triple B → Type 0

-- the set of a list
abbrev pub set_of : {B : Type 0} → List (Triple B) → Graph B
set_of list = Among list

-- 3.3, literal term equality: the parts are equal, character by character
abbrev pub same_kind : Kind → Kind → Bool
same_kind Plain Plain = true
same_kind (Tagged a) (Tagged b) = bytes_eq a b
same_kind (Typed a) (Typed b) = bytes_eq a b
same_kind _ _ = false

module _ {B : Type 0} (same : B → B → Bool) where
  abbrev pub same_node : Node B → Node B → Bool
  same_node (Iri a) (Iri b) = bytes_eq a b
  same_node (Blank a) (Blank b) = same a b
  same_node _ _ = false

  abbrev pub same_term : Term B → Term B → Bool
  same_term (Resource a) (Resource b) = same_node a b
  same_term (Literal a k) (Literal b l) = bytes_eq a b && same_kind k l
  same_term _ _ = false

  abbrev pub same_triple : Triple B → Triple B → Bool
  same_triple t u = same_node t.subject u.subject && bytes_eq t.predicate u.predicate && same_term t.object u.object

-- the term is no literal that is typed xsd:string
abbrev pub IsProper : {B : Type 0} → Term B → Type 0
IsProper (Resource node) = Unit {0}
IsProper (Literal text kind) = kind ≢ Typed xsd_string
