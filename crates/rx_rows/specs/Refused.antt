-- Start tags that are refused for what they mean, and some that aren't.
use Rattle.std.specs.Prelude.{◌≡◌, List, [], ◌∷◌, Option, Some, None, map, codes}
use Rattle.rx_rdfa.specs.Common.{String, standard, row_chars, facts, Refusal, RelativeVocab, XmlLiteral, HtmlLiteral, refusal}

-- why a start tag with these attributes is refused, if it is
unfoldable pub refused : List (String × String) → Option Refusal
refused attributes = refusal (facts standard [] (record { name = codes "p"; attributes = map row_chars attributes }))

pub record RefusalsHold : Type 0 where
  pub relative_vocabulary : refused (("vocab", " terms/ ") ∷ []) ≡ Some RelativeVocab
  pub empty_vocabulary : refused (("vocab", " ") ∷ []) ≡ None
  pub absolute_vocabulary : refused (("vocab", "http://v.example/") ∷ []) ≡ None
  pub html_literal : refused (("property", "dc:title") ∷ ("datatype", "rdf:HTML") ∷ []) ≡ Some HtmlLiteral
  pub xml_literal : refused (("property", "") ∷ ("datatype", " rdf:XMLLiteral ") ∷ []) ≡ Some XmlLiteral
  pub datatype_without_property : refused (("datatype", "rdf:XMLLiteral") ∷ []) ≡ None
  pub vocabulary_first : refused (("datatype", "rdf:HTML") ∷ ("property", "dc:title") ∷ ("vocab", "terms/") ∷ []) ≡ Some RelativeVocab
  pub by_vocabulary :
      refused (("vocab", "http://www.w3.org/1999/02/22-rdf-syntax-ns#") ∷ ("property", "p") ∷ ("datatype", "HTML") ∷ [])
      ≡ Some HtmlLiteral
  pub other_prefix :
      refused (("property", "http://v.example/p") ∷ ("datatype", "rdf:XMLLiteral") ∷ ("prefix", "rdf: http://o.example/") ∷ []) ≡ None
