-- The texts of the code's graph, and what they denote.
use Rattle.std.specs.Prelude.{ℕ, List, map, encode_utf8_all}
use Rattle.rx_model.specs.Common.{chars, triples_seen}
use Rattle.rx_terms.specs.declared.triples.Triple.{Triple as CodeTriple}
use Rattle.rx_shapes.specs.Table.{ShapeTable, shape_in}
use Rattle.rx_nquads.specs.Quads.{proper_triple}
use Rattle.rx_notation.specs.Layout.{turtle}
use Rattle.rx_notation.specs.Meaning.{Turtle, NestedTurtle}
use Rattle.rx_notation.specs.Short.{Prefixes}
use Rattle.rx_notation.specs.Nesting.{nested}

abbrev pub turtle_bytes : Prefixes → List CodeTriple → List ℕ
turtle_bytes context graph = encode_utf8_all (turtle context (triples_seen graph))

abbrev pub nested_bytes : Prefixes → List CodeTriple → ShapeTable → List ℕ
nested_bytes context graph shapes = encode_utf8_all (nested context (triples_seen graph) (shape_in shapes))

-- these bytes denote the graph's triples as they are read
abbrev pub DenoteTurtle : List CodeTriple → List ℕ → Type 0
DenoteTurtle graph bytes = Turtle (chars bytes) (map proper_triple (triples_seen graph))

-- the same up to the names of blank nodes
abbrev pub DenoteNested : List CodeTriple → List ℕ → Type 0
DenoteNested graph bytes = NestedTurtle (chars bytes) (map proper_triple (triples_seen graph))
