-- The rows of a context: names and IRIs, of Unicode scalar values.
use Rattle.rx_model.specs.Sets.{Among}
use Rattle.rx_pieces.specs.Writable.{WritableText, WritableIri}
use Rattle.rx_notation.specs.Short.{Prefix, Prefixes}

pub record IsRow (prefix : Prefix) : Type 0 where
  pub name : WritableText prefix.0
  pub iri : WritableIri prefix.1

pub record AreRows (context : Prefixes) : Type 0 where
  pub each : (prefix : Prefix) → Among context prefix → IsRow prefix
