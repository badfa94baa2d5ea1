-- The context that holds where no other is named: RDFa Core 1.1, 9 and HTML+RDFa 1.1, 3.1. Own selection of its prefixes.
use Rattle.std.specs.Prelude.{List, [], ◌∷◌, map, codes}
use Rattle.rx_terms.specs.Common.{String, Chars}
use Rattle.rx_rdfa.specs.Names.{Context}

abbrev pub row_chars : String × String → Chars × Chars
row_chars row = (codes row.0, codes row.1)

abbrev pub standard_prefixes : List (String × String)
standard_prefixes =
    ("cc", "http://creativecommons.org/ns#")
    ∷ ("dc", "http://purl.org/dc/terms/")
    ∷ ("dcat", "http://www.w3.org/ns/dcat#")
    ∷ ("dcterms", "http://purl.org/dc/terms/")
    ∷ ("foaf", "http://xmlns.com/foaf/0.1/")
    ∷ ("gr", "http://purl.org/goodrelations/v1#")
    ∷ ("og", "http://ogp.me/ns#")
    ∷ ("owl", "http://www.w3.org/2002/07/owl#")
    ∷ ("prov", "http://www.w3.org/ns/prov#")
    ∷ ("rdf", "http://www.w3.org/1999/02/22-rdf-syntax-ns#")
    ∷ ("rdfa", "http://www.w3.org/ns/rdfa#")
    ∷ ("rdfs", "http://www.w3.org/2000/01/rdf-schema#")
    ∷ ("schema", "http://schema.org/")
    ∷ ("sioc", "http://rdfs.org/sioc/ns#")
    ∷ ("skos", "http://www.w3.org/2004/02/skos/core#")
    ∷ ("vcard", "http://www.w3.org/2006/vcard/ns#")
    ∷ ("void", "http://rdfs.org/ns/void#")
    ∷ ("xhv", "http://www.w3.org/1999/xhtml/vocab#")
    ∷ ("xsd", "http://www.w3.org/2001/XMLSchema#")
    ∷ []

abbrev pub standard_terms : List (String × String)
standard_terms =
    ("describedby", "http://www.w3.org/2007/05/powder-s#describedby")
    ∷ ("license", "http://www.w3.org/1999/xhtml/vocab#license")
    ∷ ("role", "http://www.w3.org/1999/xhtml/vocab#role")
    ∷ []

-- prefixes and terms stand in byte order
abbrev pub standard : Context
standard = record { prefixes = map row_chars standard_prefixes; terms = map row_chars standard_terms }
