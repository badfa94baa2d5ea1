-- Literals: RDF 1.1 Concepts, 3.3. One without a datatype of its own is an xsd:string, so that none is typed so.
use Rattle.std.specs.Prelude.{ℕ}
use Rattle.rx_model.specs.Common.{Chars, Among, Triple}
use Rattle.rx_grammar.specs.Trees.{Nodes}
use Rattle.rx_rdfa.specs.Facts.{Facts}
use Rattle.rx_rdfa.specs.Whole.{written}
use Rattle.rx_model.specs.Terms.{IsProper}

-- law: such are all objects of the triples that are written
abbrev pub LiteralsAreProper : Type 0
LiteralsAreProper = (base : Chars) (tree : Nodes Facts) (t : Triple ℕ) → Among (written base tree) t → IsProper t.object
