-- What a document of expanded and flattened JSON-LD denotes: JSON-LD 1.1 Processing Algorithms and API, 8.1 (Deserialize
-- JSON-LD to RDF) and 8.3 (List to RDF).
use Rattle.std.specs.Prelude.{ℕ, suc, ◌+◌, ◌&&◌, ◌==◌, List, [], ◌∷◌, ◌++◌, map, length, Option, Some, None, if◌then◌else◌}
use Rattle.serde_json.specs.Data.{Data}
use Rattle.rx_model.specs.Common.{colon, low_line, Chars, Node, Iri, Blank, Term, Resource, Literal, Triple, set_of, spo, rdf_type, rdf_first, rdf_rest, rdf_nil, Renamed}
use Rattle.rx_nquads.specs.Quads.{proper_kind}
use Rattle.rx_jsonld.specs.Document.{NodeOrValue, Reference, Value, Object, Single, ListObject, Entry, Id, Types, Property, NodeObject, JsonLdDocument, SpellsJsonLd, ids}

-- the label of a blank node: what stands behind `_:`
abbrev pub label_in : Chars → Option Chars
label_in [] = None
label_in (c ∷ []) = None
label_in (c ∷ d ∷ text) = if c == low_line && d == colon then Some text else None

-- how many cells of lists stand in it
abbrev pub cells_in : Object → ℕ
cells_in (Single x) = 0
cells_in (ListObject xs) = length xs

abbrev pub cells_in_all : List Object → ℕ
cells_in_all [] = 0
cells_in_all (o ∷ more) = cells_in o + cells_in_all more

abbrev pub cells_in_entry : Entry → ℕ
cells_in_entry (Id id) = 0
cells_in_entry (Types types) = 0
cells_in_entry (Property predicate objects) = cells_in_all objects

abbrev pub cells_of_all : List Entry → ℕ
cells_of_all [] = 0
cells_of_all (entry ∷ more) = cells_in_entry entry + cells_of_all more

-- Blank nodes get their names from their label, or, as cells of lists, from their place among the cells.
module _ {B : Type 0} (label : Chars → B) (place : ℕ → B) where
  abbrev pub node_by : Chars → Option Chars → Node B
  node_by text None = Iri text
  node_by text (Some name) = Blank (label name)

  -- a text that begins with `_:` names a blank node, another an IRI
  abbrev pub node_of : Chars → Node B
  node_of text = node_by text (label_in text)

  -- xsd:string is the datatype of plain literals
  abbrev pub term_of : NodeOrValue → Term B
  term_of (Reference id) = Resource (node_of id)
  term_of (Value text kind) = Literal text (proper_kind kind)

  -- a list is its first cell, which has the place `n`, or rdf:nil
  abbrev pub list_node : List NodeOrValue → ℕ → Node B
  list_node [] n = Iri rdf_nil
  list_node (x ∷ more) n = Blank (place n)

  -- each cell has its item and the rest of the list
  abbrev pub list_triples : List NodeOrValue → ℕ → List (Triple B)
  list_triples [] n = []
  list_triples (x ∷ more) n =
      spo (Blank (place n)) rdf_first (term_of x) ∷ spo (Blank (place n)) rdf_rest (Resource (list_node more (suc n))) ∷ list_triples more (suc n)

  module _ (subject : Node B) where
    abbrev pub object_triples : Chars → Object → ℕ → List (Triple B)
    object_triples predicate (Single x) n = spo subject predicate (term_of x) ∷ []
    object_triples predicate (ListObject xs) n = spo subject predicate (Resource (list_node xs n)) ∷ list_triples xs n

    abbrev pub objects_triples : Chars → List Object → ℕ → List (Triple B)
    objects_triples predicate [] n = []
    objects_triples predicate (o ∷ more) n = object_triples predicate o n ++ objects_triples predicate more (n + cells_in o)

    abbrev pub type_triple : Chars → Triple B
    type_triple text = spo subject rdf_type (Resource (node_of text))

    abbrev pub entry_triples : Entry → ℕ → List (Triple B)
    entry_triples (Id id) n = []
    entry_triples (Types types) n = map type_triple types
    entry_triples (Property predicate objects) n = objects_triples predicate objects n

    abbrev pub entries_triples : List Entry → ℕ → List (Triple B)
    entries_triples [] n = []
    entries_triples (entry ∷ more) n = entry_triples entry n ++ entries_triples more (n + cells_in_entry entry)

  abbrev pub triples_by : List Chars → NodeObject → ℕ → List (Triple B)
  triples_by [] node n = []
  triples_by (id ∷ more) node n = entries_triples (node_of id) node n

  abbrev pub node_triples : NodeObject → ℕ → List (Triple B)
  node_triples node n = triples_by (ids node) node n

  abbrev pub all_triples : JsonLdDocument → ℕ → List (Triple B)
  all_triples [] n = []
  all_triples (node ∷ more) n = node_triples node n ++ all_triples more (n + cells_of_all node)

-- ---- what a value denotes

-- the blank nodes of a document
pub data JsonLdBlank : Type 0 where
  Label : Chars → JsonLdBlank
  Place : ℕ → JsonLdBlank

-- the triples of a document, its blank nodes under their labels and places in it
abbrev pub named_triples : JsonLdDocument → List (Triple JsonLdBlank)
named_triples nodes = all_triples Label Place nodes 0

-- The value denotes the graph: it is that of a document, and the graph is the document's triples with their blank nodes
-- renamed one to one.
pub record JsonLd (value : Data) (graph : List (Triple ℕ)) : Type 0 where
  pub document : JsonLdDocument
  pub spells : SpellsJsonLd value document
  pub renamed : Renamed (set_of (named_triples document)) (set_of graph)

-- law: two graphs that one value denotes differ in the names of blank nodes alone
abbrev pub JsonLdDenotesOne : Type 0
JsonLdDenotesOne = (value : Data) (xs ys : List (Triple ℕ)) → JsonLd value xs → JsonLd value ys → Renamed (set_of xs) (set_of ys)
