-- Readings that make IRIs: they begin with a scheme. Readings that name a node: no reference is left to be resolved.
use Rattle.std.specs.Prelude.{Bool, true, false, Option, Some, None}
use Rattle.rx_terms.specs.Iri.{has_scheme}
use Rattle.rx_rdfa.specs.Readings.{CurieReading, Full, Joined, Label, Reference}

abbrev pub is_absolute : CurieReading → Bool
is_absolute (Full iri) = has_scheme iri
is_absolute (Joined iri more) = has_scheme iri
is_absolute (Label label) = true
is_absolute (Reference reference) = true

abbrev pub none_or_absolute : Option CurieReading → Bool
none_or_absolute None = true
none_or_absolute (Some reading) = is_absolute reading

abbrev pub reads_as_node : CurieReading → Bool
reads_as_node (Full iri) = true
reads_as_node (Joined iri more) = true
reads_as_node (Label label) = true
reads_as_node (Reference reference) = false

abbrev pub none_or_named : Option CurieReading → Bool
none_or_named None = true
none_or_named (Some reading) = reads_as_node reading
