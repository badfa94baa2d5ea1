-- What is written of what a page gives.
use Rattle.std.specs.Prelude.{ℕ, nat_eq, List, map, encode_utf8_all}
use Rattle.rx_rdfa.specs.Common.{chars, copied, numbered, triples_seen, Triple, Context}
use Rattle.rx_terms.specs.declared.triples.Triple.{Triple as CodeTriple}
use Rattle.rx_nquads.specs.Document.{Nquads}
use Rattle.rx_nquads.specs.Quads.{quads, proper_triple}
use Rattle.rx_nquads.specs.Writing.{nquads}
use Rattle.rx_notation.specs.Layout.{turtle}
use Rattle.rx_notation.specs.Meaning.{Turtle, NestedTurtle}
use Rattle.rx_shapes.specs.Table.{shape_in}
use Rattle.rx_notation.specs.Nesting.{nested}
use Rattle.rx_page.specs.Texts.{ok_line}
use Rattle.rx_page.specs.Shaped.{Shaped}
use Rattle.rx_page.specs.declared.outcomes.Outcome.{Outcome}
use Rattle.rx_page.specs.declared.outcomes.Outcome.TheVariants as outcome

abbrev pub nested_text : Context → Shaped → List ℕ
nested_text context shaped = encode_utf8_all (nested context.prefixes shaped.triples (shape_in shaped.table))

-- the graph of a list of triples: property copying is done, and blank nodes are numbered in order of first occurrence
abbrev pub graph_made : List CodeTriple → List (Triple ℕ)
graph_made list = numbered nat_eq (copied nat_eq (triples_seen list))

-- the text of the triples, one of JSON, or that of a page that is right
abbrev pub output_text : Outcome → List ℕ
output_text (outcome.Quads graph name) = encode_utf8_all (nquads (triples_seen graph) name)
output_text (outcome.Turtle graph context) = encode_utf8_all (turtle context.prefixes (triples_seen graph))
output_text (outcome.Nested shaped context) = nested_text context shaped
output_text (outcome.Json text) = text.items
output_text outcome.Right = ok_line

-- the text of triples denotes exactly these, as is known where it was written
abbrev pub Denoted : Outcome → Type 0
Denoted (outcome.Quads graph name) = Nquads (chars (encode_utf8_all (nquads (triples_seen graph) name))) (quads (triples_seen graph) name)
Denoted (outcome.Turtle graph context) =
    Turtle (chars (encode_utf8_all (turtle context.prefixes (triples_seen graph)))) (map proper_triple (triples_seen graph))
Denoted (outcome.Nested shaped context) = NestedTurtle (chars (nested_text context shaped)) (map proper_triple shaped.triples)
Denoted (outcome.Json text) = Unit {0}
Denoted outcome.Right = Unit {0}
