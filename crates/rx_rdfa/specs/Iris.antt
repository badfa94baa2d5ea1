-- The IRIs that RDFa's triples have of their own.
use Rattle.std.specs.Prelude.{codes}
use Rattle.rx_terms.specs.Text.{Chars}
pub use Rattle.rx_terms.specs.Literal.{xsd_string}

abbrev pub uses_vocabulary : Chars
uses_vocabulary = codes "http://www.w3.org/ns/rdfa#usesVocabulary"

-- the namespace of XML Schema's datatypes
abbrev pub xsd : Chars
xsd = codes "http://www.w3.org/2001/XMLSchema#"
