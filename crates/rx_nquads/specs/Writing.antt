-- The N-Quads text of a list of triples, character by character (the choice of the layout is our own).
use Rattle.std.specs.Prelude.{ℕ, List, [], ◌++◌, codes, flat_map, Option, Some, None}
use Rattle.rx_model.specs.Common.{Chars, Kind, Plain, Tagged, Typed, Node, Iri, Blank, Term, Resource, Literal, Triple}
use Rattle.rx_pieces.specs.Writing.{string_text, iri_text, blank_text}

abbrev pub node_text : Node ℕ → Chars
node_text (Iri iri) = iri_text iri
node_text (Blank number) = blank_text number

abbrev pub kind_text : Kind → Chars
kind_text Plain = []
kind_text (Tagged tag) = codes "@" ++ tag
kind_text (Typed datatype) = codes "^^" ++ iri_text datatype

abbrev pub term_text : Term ℕ → Chars
term_text (Resource node) = node_text node
term_text (Literal text kind) = string_text text ++ kind_text kind

-- what ends a literal behind its text, and a space
abbrev pub literal_end : Kind → Chars
literal_end kind = codes "\"" ++ (kind_text kind ++ codes " ")

-- the graph name and a space, where there is a name
abbrev pub graph_text : Option Chars → Chars
graph_text None = []
graph_text (Some name) = iri_text name ++ codes " "

-- a line: `subject predicate object .`, or with the graph name before the full stop, and LF
abbrev pub line_text : Option Chars → Triple ℕ → Chars
line_text name t =
    node_text t.subject
    ++ (codes " " ++ (iri_text t.predicate ++ (codes " " ++ (term_text t.object ++ (codes " " ++ (graph_text name ++ codes ".\n"))))))

abbrev pub nquads : List (Triple ℕ) → Option Chars → Chars
nquads list name = flat_map (line_text name) list
