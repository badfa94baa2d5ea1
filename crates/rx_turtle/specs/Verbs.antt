-- Predicates, where they are given as nodes; none is a blank node.
use Rattle.std.specs.Prelude.{ℕ, List, []}
use Rattle.rx_model.specs.Common.{Chars, Node, Iri, Blank}
use Rattle.rx_pieces.specs.Writing.{blank_text}
use Rattle.rx_notation.specs.Short.{Prefixes}
use Rattle.rx_notation.specs.Layout.{short_predicate, iris_of_predicate}

abbrev pub key_text : Prefixes → Node ℕ → Chars
key_text context (Iri iri) = short_predicate context iri
key_text context (Blank number) = blank_text number

-- the IRIs that are written as such
abbrev pub iris_of_verb : Node ℕ → List Chars
iris_of_verb (Iri iri) = iris_of_predicate iri
iris_of_verb (Blank number) = []
