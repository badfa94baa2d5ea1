-- What is written of a page, and the graph that it denotes.
use Rattle.std.specs.Prelude.{ℕ, List}
use Rattle.rx_model.specs.Common.{Chars, Triple, Graph, set_of, copied, patterned, numbered, Renamed}
use Rattle.rx_grammar.specs.Trees.{Nodes}
use Rattle.rx_rdfa.specs.Blanks.{Bnode, same_bnode, model}
use Rattle.rx_rdfa.specs.Facts.{Facts}
use Rattle.rx_rdfa.specs.Made.{raw, made}

-- the triples that are written
abbrev pub written : Chars → Nodes Facts → List (Triple ℕ)
written base tree = numbered same_bnode (copied same_bnode (made model base tree))

-- the graph that RDFa's rules give
abbrev pub graph_of : Chars → Nodes Facts → Graph Bnode
graph_of base tree = patterned (raw model base tree)

-- law: what is written is that graph, its blank nodes renamed one to one
abbrev pub WrittenDenotes : Type 0
WrittenDenotes = (base : Chars) (tree : Nodes Facts) → Renamed (graph_of base tree) (set_of (written base tree))
