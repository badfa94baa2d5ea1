-- The terms of quads as bytes, in UTF-8.
use Rattle.std.specs.Prelude.{ℕ, List, [], ◌++◌, codes, bytes_eq, encode_utf8_all, Option, Some, None, option_map, if◌then◌else◌}
use Rattle.rx_terms.specs.Common.{decimal, xsd_string, Chars}
use Rattle.rx_model.specs.Terms.{Kind, Plain, Tagged, Typed, Node, Iri, Blank, Term, Resource, Literal}
use Rattle.rx_nquads.specs.Quads.{Quad}
use Rattle.rx_quads.specs.declared.terms.TermKind.{TermKind}
use Rattle.rx_quads.specs.declared.terms.TermKind.TheVariants as kind
use Rattle.rx_quads.specs.declared.terms.ShownTerm.{ShownTerm}
use Rattle.rx_quads.specs.declared.terms.ShownQuad.{ShownQuad}

-- what a term is, its text, and of a literal its language tag or its datatype
pub record TermBytes : Type 0 where
  pub kind : TermKind
  pub text : List ℕ
  pub language : List ℕ
  pub datatype : List ℕ

pub record QuadBytes : Type 0 where
  pub subject : TermBytes
  pub predicate : TermBytes
  pub object : TermBytes
  pub graph : TermBytes

-- a term with nothing beside its text
abbrev pub plain_bytes : TermKind → List ℕ → TermBytes
plain_bytes kind text = record { kind = kind; text = text; language = []; datatype = [] }

abbrev pub iri_bytes : Chars → TermBytes
iri_bytes iri = plain_bytes kind.Iri (encode_utf8_all iri)

-- a blank node's label without `_:`
abbrev pub label_bytes : ℕ → TermBytes
label_bytes number = plain_bytes kind.Blank (codes "b" ++ decimal number)

abbrev pub node_bytes : Node ℕ → TermBytes
node_bytes (Iri iri) = iri_bytes iri
node_bytes (Blank b) = label_bytes b

abbrev pub literal_bytes : Chars → Kind → TermBytes
literal_bytes text Plain = plain_bytes kind.Literal (encode_utf8_all text)
literal_bytes text (Tagged tag) = record { kind = kind.Literal; text = encode_utf8_all text; language = encode_utf8_all tag; datatype = [] }
literal_bytes text (Typed datatype) = record { kind = kind.Literal; text = encode_utf8_all text; language = []; datatype = encode_utf8_all datatype }

abbrev pub term_bytes : Term ℕ → TermBytes
term_bytes (Resource node) = node_bytes node
term_bytes (Literal text kind) = literal_bytes text kind

-- the name of a graph as a node
abbrev pub graph_node : Option Chars → Option (Node ℕ)
graph_node name = option_map (λ iri. Iri iri) name

-- the name of a graph, or that it is the default graph
abbrev pub graph_name_bytes : Option (Node ℕ) → TermBytes
graph_name_bytes None = plain_bytes kind.Nothing []
graph_name_bytes (Some node) = node_bytes node

abbrev pub quad_bytes : Quad → QuadBytes
quad_bytes q = record {
  subject = node_bytes q.triple.subject;
  predicate = iri_bytes q.triple.predicate;
  object = term_bytes q.triple.object;
  graph = graph_name_bytes q.graph;
}

-- a datatype that isn't xsd:string
abbrev pub datatype_bytes : Chars → List ℕ
datatype_bytes datatype = if bytes_eq datatype xsd_string then [] else encode_utf8_all datatype

-- what the code has
abbrev pub shown_term : ShownTerm → TermBytes
shown_term t = record { kind = t.kind; text = t.text.items; language = t.language.items; datatype = t.datatype.items }

abbrev pub shown_quad : ShownQuad → QuadBytes
shown_quad q = record {
  subject = shown_term q.subject;
  predicate = shown_term q.predicate;
  object = shown_term q.object;
  graph = shown_term q.graph;
}
