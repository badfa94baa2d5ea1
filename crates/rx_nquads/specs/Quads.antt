-- Quads: RDF 1.1 Concepts, 4. Blank nodes are numbers.
use Rattle.std.specs.Prelude.{◌≡◌, ℕ, List, map, Option, option_map, bytes_eq, if◌then◌else◌}
use Rattle.rx_terms.specs.Common.{Chars, xsd_string}
use Rattle.rx_model.specs.Terms.{Kind, Plain, Tagged, Typed, Node, Iri, Term, Resource, Literal, Triple, IsProper}

-- a triple in the graph of a name, or in the default graph
pub record Quad : Type 0 where
  pub triple : Triple ℕ
  pub graph : Option (Node ℕ)

-- what a literal of a datatype has beside its characters: one of xsd:string is plain (RDF 1.1 Concepts, 3.3)
abbrev pub literal_kind : Chars → Kind
literal_kind datatype = if bytes_eq datatype xsd_string then Plain else Typed datatype

abbrev pub proper_kind : Kind → Kind
proper_kind Plain = Plain
proper_kind (Tagged tag) = Tagged tag
proper_kind (Typed datatype) = literal_kind datatype

abbrev pub proper_term : Term ℕ → Term ℕ
proper_term (Resource node) = Resource node
proper_term (Literal text kind) = Literal text (proper_kind kind)

-- the triple as it is read: a literal that is typed xsd:string is the plain one
abbrev pub proper_triple : Triple ℕ → Triple ℕ
proper_triple t = record { subject = t.subject; predicate = t.predicate; object = proper_term t.object }

-- the quad of a triple, its literal plain where it is an xsd:string
abbrev pub quad_of : Option Chars → Triple ℕ → Quad
quad_of name t = record {
  triple = proper_triple t;
  graph = option_map (λ iri. Iri iri) name;
}

-- the quads of a list of triples, all in the graph of one name
abbrev pub quads : List (Triple ℕ) → Option Chars → List Quad
quads list name = map (quad_of name) list

-- law: the quad of a triple whose object is proper has that triple
abbrev pub ProperStays : Type 0
ProperStays = (name : Option Chars) (t : Triple ℕ) → IsProper t.object → (quad_of name t).triple ≡ t
