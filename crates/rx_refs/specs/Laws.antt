-- Laws of the definitions.
use Rattle.std.specs.Prelude.{◌≡◌, Bool, true, false, bytes_eq}
use Rattle.rx_terms.specs.Common.{list_all, Chars, trimmed, has_scheme, has_forbidden, IsIri}
use Rattle.rx_refs.specs.Parts.{components_of, recomposed}
use Rattle.rx_refs.specs.Resolve.{resolved}
use Rattle.rx_refs.specs.Rows.{base, normal, abnormal, own, elsewhere}

abbrev pub AbsoluteStandsAlone : Type 0
AbsoluteStandsAlone = (base other reference : Chars) → has_scheme (trimmed reference) ≡ true → resolved base reference ≡ resolved other reference

abbrev pub PartsAreWhole : Type 0
PartsAreWhole = (text : Chars) → recomposed (components_of text) ≡ text

pub record IsIriAgainst (base reference : Chars) : Type 0 where
  pub clean : has_forbidden (resolved base reference) ≡ false
  pub iri : IsIri base → IsIri (resolved base reference)

abbrev pub ResolvedIsIri : Type 0
ResolvedIsIri = (base reference : Chars) → IsIriAgainst base reference

abbrev pub against_base : Chars × Chars → Bool
against_base row = bytes_eq (resolved base row.0) row.1

abbrev pub against_its_base : Chars × Chars × Chars → Bool
against_its_base row = bytes_eq (resolved row.0 row.1) row.2

pub record ExamplesHold : Type 0 where
  pub normal_hold : list_all against_base normal ≡ true
  pub abnormal_hold : list_all against_base abnormal ≡ true
  pub own_hold : list_all against_base own ≡ true
  pub elsewhere_hold : list_all against_its_base elsewhere ≡ true
