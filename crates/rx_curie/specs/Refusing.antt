-- Why a start tag is refused, by what its `datatype` reads to.
use Rattle.std.specs.Prelude.{Bool, true, false, not, ◌==◌, ◌&&◌, ℕ, List, Option, Some, None, bytes_eq, option_and_then, if◌then◌else◌}
use Rattle.rx_rdfa.specs.Common.{percent_sign, is_forbidden, Chars, trimmed, ElementTag, Context, predicate, Refusal, XmlLiteral, HtmlLiteral, rdf_xml_literal, rdf_html, Kind, is_of_meaning}

abbrev pub is_that_iri : Option Chars → Chars → Bool
is_that_iri None word = false
is_that_iri (Some iri) word = bytes_eq iri word

-- a character that stands in a cleaned text only where it stood before
abbrev pub is_uncleaned : ℕ → Bool
is_uncleaned c = not (is_forbidden c) && not (c == percent_sign)

-- literals with this datatype are markup of XML, or of HTML
abbrev pub markup : Option Chars → Option Refusal
markup iri = if is_that_iri iri rdf_xml_literal then Some XmlLiteral else if is_that_iri iri rdf_html then Some HtmlLiteral else None

abbrev pub markup_of : Context → List ElementTag → Option Chars → Option Refusal
markup_of context line value = option_and_then (λ text. markup (predicate context line (trimmed text))) value

abbrev pub kind_or_none : Option Kind → Bool
kind_or_none None = true
kind_or_none (Some kind) = is_of_meaning kind
