-- The JSON-LD of a list of triples: expanded and flattened form (JSON-LD 1.1, 9; JSON-LD 1.1 Processing Algorithms and API,
-- 5.1 and 7.1). The order, which cells are listed, and the names of blank nodes are our own choice.
use Rattle.std.specs.Prelude.{ℕ, Bool, false, not, ◌&&◌, List, [], ◌∷◌, map, filter, length, codes, bytes_eq, encode_utf8_all, Option, Some, None, if◌then◌else◌}
use Rattle.serde_json.specs.Data.{Data, Members, null, array, object, no_members, member}
use Rattle.serde_json.specs.View.{items_of}
use Rattle.rx_model.specs.Common.{Chars, Kind, Plain, Tagged, Typed, Node, Iri, Blank, Term, Resource, Literal, Triple, rdf_type, rdf_first, rdf_rest, rdf_nil}
use Rattle.rx_graph.specs.Resources.{resource_of}
use Rattle.rx_pieces.specs.Writing.{blank_text}
use Rattle.rx_shapes.specs.declared.shapes.Shape.{Shape}
use Rattle.rx_shapes.specs.Subjects.{about, subjects, object_at}
use Rattle.rx_jsonld.specs.Members.{with_last}
use Rattle.rx_jsonld.specs.Lists.{chain, first_cell, cells_at, is_listed}
use Rattle.rx_json.specs.Plain.{string_of}

-- ---- terms

-- an object of one member
abbrev pub object_with : List ℕ → Data → Data
object_with key value = object (member key value no_members)

-- 3.3, 4.5.1: a node is named by its IRI, or by `_:` and a label
abbrev pub id_text : Node ℕ → Chars
id_text (Iri iri) = iri
id_text (Blank b) = blank_text b

abbrev pub literal_members : Chars → Kind → Members
literal_members text Plain = member (codes "@value") (string_of text) no_members
literal_members text (Tagged tag) = member (codes "@language") (string_of tag) (member (codes "@value") (string_of text) no_members)
literal_members text (Typed datatype) = member (codes "@type") (string_of datatype) (member (codes "@value") (string_of text) no_members)

-- 9.2, 9.5: a node object with an `@id` alone, or a value object
abbrev pub term_value : Term ℕ → Data
term_value (Resource node) = object_with (codes "@id") (string_of (id_text node))
term_value (Literal text kind) = object (literal_members text kind)

-- 9.7: a list object
abbrev pub list_value : List Data → Data
list_value items = object_with (codes "@list") (array (items_of items))

abbrev pub item_by : Option (Term ℕ) → Data
item_by (Some item) = term_value item
item_by None = null

-- the item of a cell
abbrev pub item_value : List (Triple ℕ) → ℕ → Data
item_value list b = item_by (object_at list (Blank b) rdf_first)

-- the list that begins with a cell
abbrev pub list_from : List (Triple ℕ) → ℕ → Data
list_from list first = list_value (map (item_value list) (chain list (length list) first))

-- ---- what is said of a node

-- whether rdf:nil is written as a list of no items under the predicate
abbrev pub may_be_empty : Chars → Bool
may_be_empty predicate = not (bytes_eq predicate rdf_first) && not (bytes_eq predicate rdf_rest)

abbrev pub is_empty_list : Chars → Term ℕ → Bool
is_empty_list predicate (Resource (Iri iri)) = may_be_empty predicate && bytes_eq iri rdf_nil
is_empty_list predicate (Resource (Blank b)) = false
is_empty_list predicate (Literal text kind) = false

abbrev pub plain_value : Chars → Term ℕ → Data
plain_value predicate o = if is_empty_list predicate o then list_value [] else term_value o

-- the node that the triple gives as a type
abbrev pub type_by : Bool → Term ℕ → Option (Node ℕ)
type_by is_type o = if is_type then resource_of o else None

abbrev pub type_of : Triple ℕ → Option (Node ℕ)
type_of t = type_by (bytes_eq t.predicate rdf_type) t.object

module _ (list : List (Triple ℕ)) (shapes : ℕ → Shape) where
  abbrev pub object_by : Triple ℕ → Option ℕ → Data
  object_by t (Some b) = list_value (map (item_value list) (cells_at shapes list t))
  object_by t None = plain_value t.predicate t.object

  -- a triple's object under its predicate
  abbrev pub object_value : Triple ℕ → Data
  object_value t = object_by t (first_cell shapes t)

  abbrev pub with_object : Triple ℕ → Members → Members
  with_object t members = with_last (encode_utf8_all t.predicate) (object_value t) members

  abbrev pub said_by : Triple ℕ → Option (Node ℕ) → Members → Members
  said_by t (Some node) members = with_last (codes "@type") (string_of (id_text node)) members
  said_by t None members = with_object t members

  -- the members with what a triple says
  abbrev pub with_said : Triple ℕ → Members → Members
  with_said t members = said_by t (type_of t) members

  abbrev pub with_all : List (Triple ℕ) → Members → Members
  with_all [] members = members
  with_all (t ∷ more) members = with_all more (with_said t members)

  -- 9.2: the node object of a subject
  abbrev pub node_value : Node ℕ → Data
  node_value subject = object (with_all (about list subject) (member (codes "@id") (string_of (id_text subject)) no_members))

  -- the subjects that have node objects
  abbrev pub tops : List (Node ℕ)
  tops = filter (λ subject. not (is_listed shapes list subject)) (subjects list)

-- the node objects of all subjects that have one
abbrev pub nodes_of : List (Triple ℕ) → (ℕ → Shape) → List Data
nodes_of list shapes = map (node_value list shapes) (tops list shapes)

-- the JSON-LD of a list of triples whose blank nodes have these shapes
abbrev pub jsonld : List (Triple ℕ) → (ℕ → Shape) → Data
jsonld list shapes = array (items_of (nodes_of list shapes))
