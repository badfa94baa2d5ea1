-- The IRIs that any element's start may need.
use Rattle.std.specs.Prelude.{◌≡◌}
use Rattle.rx_rdfa.specs.Common.{Chars, uses_vocabulary, rdf_type}

-- the two are rdf:type and rdfa:usesVocabulary
abbrev pub AreRdfaIris : Chars → Chars → Type 0
AreRdfaIris type vocabulary = (type ≡ rdf_type) × (vocabulary ≡ uses_vocabulary)
