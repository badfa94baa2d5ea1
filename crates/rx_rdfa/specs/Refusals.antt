-- Start tags that are refused for what they mean, their own declarations being in force. Own rules.
use Rattle.std.specs.Prelude.{Bool, false, not, ◌&&◌, Option, Some, None, is_some, bytes_eq, codes, if◌then◌else◌}
use Rattle.rx_terms.specs.Common.{Chars, has_scheme}
use Rattle.rx_rdfa.specs.Facts.{Facts, Datatype, Empty, Is}

pub data Refusal : Type 0 where
  RelativeVocab XmlLiteral HtmlLiteral : Refusal

abbrev pub rdf_xml_literal : Chars
rdf_xml_literal = codes "http://www.w3.org/1999/02/22-rdf-syntax-ns#XMLLiteral"

abbrev pub rdf_html : Chars
rdf_html = codes "http://www.w3.org/1999/02/22-rdf-syntax-ns#HTML"

-- there is a vocabulary, and it has no scheme
abbrev pub is_relative : Option Chars → Bool
is_relative None = false
is_relative (Some vocab) = not (has_scheme vocab)

abbrev pub is_datatype : Option Datatype → Chars → Bool
is_datatype None iri = false
is_datatype (Some Empty) iri = false
is_datatype (Some (Is datatype)) iri = bytes_eq datatype iri

-- property has this datatype
abbrev pub has_literals_of : Facts → Chars → Bool
has_literals_of facts iri = is_some facts.property && is_datatype facts.datatype iri

-- the first that holds: a vocabulary that isn't absolute; literals that are markup of XML, or of HTML
abbrev pub refusal : Facts → Option Refusal
refusal facts =
    if is_relative facts.vocab then Some RelativeVocab
    else if has_literals_of facts rdf_xml_literal then Some XmlLiteral
    else if has_literals_of facts rdf_html then Some HtmlLiteral
    else None
