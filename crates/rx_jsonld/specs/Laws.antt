-- What holds of the JSON-LD of a list of triples.
use Rattle.std.specs.Prelude.{◌≡◌, ◌↔◌, ◌≤◌, ℕ, false, List, map, nat_eq}
use Rattle.serde_json.specs.Data.{Data, depth}
use Rattle.serde_json.specs.Written.{has_float}
use Rattle.rx_model.specs.Common.{IsIri, Among, distinct, Node, Iri, Blank, Term, Resource, Literal, Triple, same_triple, set_of}
use Rattle.rx_shapes.specs.declared.shapes.Shape.{Shape}
use Rattle.rx_pieces.specs.Writable.{IsWritable}
use Rattle.rx_nquads.specs.Quads.{proper_triple}
use Rattle.rx_shapes.specs.Shapes.{HaveShapes}
use Rattle.rx_jsonld.specs.Lists.{IsListed, listed}
use Rattle.rx_jsonld.specs.Value.{jsonld}
use Rattle.rx_jsonld.specs.Document.{IsFormed}
use Rattle.rx_jsonld.specs.Meaning.{JsonLd}

-- law: the value of a list in which each triple stands once denotes the list's set, up to the names of blank nodes, its
-- triples as they are read
abbrev pub ValueDenotes : Type 0
ValueDenotes = (list : List (Triple ℕ)) (shapes : ℕ → Shape) → IsWritable list
    → distinct (same_triple nat_eq) list ≡ list → HaveShapes list shapes → JsonLd (jsonld list shapes) (map proper_triple list)

-- a node is an IRI or a blank node
abbrev pub IsFormedNode : {B : Type 0} → Node B → Type 0
IsFormedNode (Iri iri) = IsIri iri
IsFormedNode (Blank b) = Unit {0}

abbrev pub IsFormedTerm : {B : Type 0} → Term B → Type 0
IsFormedTerm (Resource node) = IsFormedNode node
IsFormedTerm (Literal text kind) = IsFormed kind

-- its IRIs, its datatype and its language tag have their form
pub record IsFormedTriple {B : Type 0} (t : Triple B) : Type 0 where
  pub subject : IsFormedNode t.subject
  pub predicate : IsIri t.predicate
  pub object : IsFormedTerm t.object

-- law: so has each triple that a value denotes
abbrev pub DenotesFormed : Type 0
DenotesFormed = (value : Data) (graph : List (Triple ℕ)) → JsonLd value graph → (t : Triple ℕ) → Among graph t → IsFormedTriple t

-- law: at most six arrays and objects lie in each other, and no number is a float
pub record ValuesAreFlat : Type 0 where
  pub levels : (list : List (Triple ℕ)) (shapes : ℕ → Shape) → depth (jsonld list shapes) ≤ 6
  pub no_float : (list : List (Triple ℕ)) (shapes : ℕ → Shape) → has_float (jsonld list shapes) ≡ false

-- law: the cells that are listed, found along chains, are those of which the words say so
abbrev pub ListsCells : Type 0
ListsCells = (list : List (Triple ℕ)) (shapes : ℕ → Shape) → HaveShapes list shapes
    → (b : ℕ) → Among (listed shapes list) b ↔ IsListed (set_of list) b
