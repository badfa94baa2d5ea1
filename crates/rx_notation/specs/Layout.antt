-- The Turtle text of a list of triples, character by character (the choice of the layout is our own): the prefixes that
-- it uses, then each subject with all that is said of it.
use Rattle.std.specs.Prelude.{ℕ, Bool, ◌&&◌, List, [], ◌∷◌, ◌++◌, map, filter, filter_map, flat_map, codes, bytes_eq, Option, Some, None, if◌then◌else◌}
use Rattle.rx_model.specs.Common.{Chars, contains, Kind, Plain, Tagged, Typed, Node, Iri, Blank, Term, Resource, Literal, Triple, rdf_type}
use Rattle.rx_shapes.specs.Subjects.{subjects, predicates_of, objects_of}
use Rattle.rx_pieces.specs.Writing.{string_text, iri_text, blank_text}
use Rattle.rx_notation.specs.Short.{Prefix, Prefixes, is_byte_less, prefix_of, short_text}

-- ---- terms

abbrev pub iri_by : Option Prefix → Chars → Chars
iri_by None iri = iri_text iri
iri_by (Some prefix) iri = short_text prefix iri

-- an IRI, in its short form where it has one
abbrev pub short_iri : Prefixes → Chars → Chars
short_iri context iri = iri_by (prefix_of context iri) iri

abbrev pub resource_text : Prefixes → Node ℕ → Chars
resource_text context (Iri iri) = short_iri context iri
resource_text context (Blank number) = blank_text number

-- rdf:type as a predicate is written `a`
abbrev pub short_predicate : Prefixes → Chars → Chars
short_predicate context predicate = if bytes_eq predicate rdf_type then codes "a" else short_iri context predicate

abbrev pub kind_suffix : Prefixes → Kind → Chars
kind_suffix context Plain = []
kind_suffix context (Tagged tag) = codes "@" ++ tag
kind_suffix context (Typed datatype) = codes "^^" ++ short_iri context datatype

abbrev pub object_text : Prefixes → Term ℕ → Chars
object_text context (Resource node) = resource_text context node
object_text context (Literal text kind) = string_text text ++ kind_suffix context kind

-- ---- what is said of a subject

-- the texts, with another between neighbours
abbrev pub separated : Chars → List Chars → Chars
separated between [] = []
separated between (text ∷ more) = text ++ flat_map (λ next. between ++ next) more

-- a predicate and its objects
abbrev pub predicate_text : Prefixes → List (Triple ℕ) → Node ℕ → Chars → Chars
predicate_text context list node predicate =
    short_predicate context predicate ++ (codes " " ++ separated (codes " , ") (map (object_text context) (objects_of list node predicate)))

-- all that is said of a subject, ended by a full stop and LF
abbrev pub statement_text : Prefixes → List (Triple ℕ) → Node ℕ → Chars
statement_text context list node =
    resource_text context node
    ++ (codes " " ++ (separated (codes " ;\n    ") (map (predicate_text context list node) (predicates_of list node)) ++ codes " .\n"))

-- ---- the prefixes that a text uses

abbrev pub iris_of_node : Node ℕ → List Chars
iris_of_node (Iri iri) = iri ∷ []
iris_of_node (Blank number) = []

abbrev pub iris_of_kind : Kind → List Chars
iris_of_kind Plain = []
iris_of_kind (Tagged tag) = []
iris_of_kind (Typed datatype) = datatype ∷ []

abbrev pub iris_of_term : Term ℕ → List Chars
iris_of_term (Resource node) = iris_of_node node
iris_of_term (Literal text kind) = iris_of_kind kind

abbrev pub iris_of_predicate : Chars → List Chars
iris_of_predicate predicate = if bytes_eq predicate rdf_type then [] else predicate ∷ []

-- the IRIs of a triple that are written as such: all but the predicate rdf:type
abbrev pub iris_of : Triple ℕ → List Chars
iris_of t = iris_of_node t.subject ++ (iris_of_predicate t.predicate ++ iris_of_term t.object)

-- the prefixes of their short forms
abbrev pub used : Prefixes → List (Triple ℕ) → Prefixes
used context list = filter_map (prefix_of context) (flat_map iris_of list)

abbrev pub same_prefix : Prefix → Prefix → Bool
same_prefix a b = bytes_eq a.0 b.0 && bytes_eq a.1 b.1

abbrev pub those_among : Prefixes → Prefixes → Prefixes
those_among some context = filter (contains same_prefix some) context

abbrev pub prefix_placed : Prefix → Prefixes → Prefixes
prefix_placed prefix [] = prefix ∷ []
prefix_placed prefix (first ∷ more) = if is_byte_less first.0 prefix.0 then first ∷ prefix_placed prefix more else prefix ∷ first ∷ more

-- the prefixes in byte order of their names
abbrev pub in_byte_order : Prefixes → Prefixes
in_byte_order [] = []
in_byte_order (prefix ∷ more) = prefix_placed prefix (in_byte_order more)

-- the prefixes of the context that the text of the list uses, in byte order of their names
abbrev pub prefixes_used : Prefixes → List (Triple ℕ) → Prefixes
prefixes_used context list = in_byte_order (those_among (used context list) context)

abbrev pub prefix_text : Prefix → Chars
prefix_text prefix = codes "@prefix " ++ (prefix.0 ++ (codes ": " ++ (iri_text prefix.1 ++ codes " .\n")))

-- a line for each prefix, and behind the last one an empty line
abbrev pub prefixes_text : Prefixes → Chars
prefixes_text [] = []
prefixes_text (prefix ∷ more) = flat_map prefix_text (prefix ∷ more) ++ codes "\n"

-- ---- the text

abbrev pub turtle : Prefixes → List (Triple ℕ) → Chars
turtle context list = prefixes_text (prefixes_used context list) ++ flat_map (statement_text context list) (subjects list)
