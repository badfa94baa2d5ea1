-- The IRIs that the triples of lists have of their own.
use Rattle.std.specs.Prelude.{◌≡◌}
use Rattle.rx_model.specs.Common.{Chars, rdf_first, rdf_rest, rdf_nil}

-- the three are rdf:first, rdf:rest and rdf:nil
abbrev pub AreOfCells : Chars → Chars → Chars → Type 0
AreOfCells first rest nil = (first ≡ rdf_first) × (rest ≡ rdf_rest) × (nil ≡ rdf_nil)
