-- The text of the code's graph, all of it in the graph of a name that is lent or in the default graph, and what it denotes.
use Rattle.std.specs.Prelude.{ℕ, List, Option, option_map, encode_utf8_all}
use Rattle.rx_model.specs.Common.{chars, Chars, triple_seen, triples_seen, Bor}
use Rattle.rx_terms.specs.declared.triples.Triple.{Triple as CodeTriple}
use Rattle.rx_nquads.specs.Document.{Nquads}
use Rattle.rx_nquads.specs.Quads.{quads}
use Rattle.rx_nquads.specs.Writing.{line_text, nquads}

abbrev pub lent_name : Option (Bor Chars) → Option Chars
lent_name name = option_map (λ iri. iri.now) name

abbrev pub line_bytes : Option (Bor Chars) → CodeTriple → List ℕ
line_bytes name triple = encode_utf8_all (line_text (lent_name name) (triple_seen triple))

abbrev pub document_bytes : List CodeTriple → Option (Bor Chars) → List ℕ
document_bytes graph name = encode_utf8_all (nquads (triples_seen graph) (lent_name name))

-- these bytes denote the graph's quads
abbrev pub DenoteGraph : List CodeTriple → Option (Bor Chars) → List ℕ → Type 0
DenoteGraph graph name bytes = Nquads (chars bytes) (quads (triples_seen graph) (lent_name name))
