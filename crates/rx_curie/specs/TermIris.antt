-- IRIs of terms, and what a reading makes of them.
use Rattle.std.specs.Prelude.{◌≡◌, true, ◌++◌, Option, option_map, option_and_then}
use Rattle.rx_rdfa.specs.Common.{Chars, cleaned, CurieReading, is_term, IriRef, iri_of, ref_of}

-- the text is a term, and the IRI that of the term under the vocabulary
abbrev pub IsTermIri : Chars → Chars → Chars → Type 0
IsTermIri vocabulary term iri = (is_term term ≡ true) × (iri ≡ cleaned (vocabulary ++ term))

-- the reading makes this IRI, as a predicate and as a type, or it makes none
abbrev pub MakesIri : Option CurieReading → Option Chars → Type 0
MakesIri reading iri = (option_and_then iri_of reading ≡ iri) × (option_map ref_of reading ≡ option_map IriRef iri)
