-- The IRIs of RDF's own vocabulary (RDF Schema 1.1, 5.2 and 3.3).
use Rattle.std.specs.Prelude.{codes}
use Rattle.rx_terms.specs.Text.{Chars}

abbrev pub rdf_type : Chars
rdf_type = codes "http://www.w3.org/1999/02/22-rdf-syntax-ns#type"

abbrev pub rdf_first : Chars
rdf_first = codes "http://www.w3.org/1999/02/22-rdf-syntax-ns#first"

abbrev pub rdf_rest : Chars
rdf_rest = codes "http://www.w3.org/1999/02/22-rdf-syntax-ns#rest"

abbrev pub rdf_nil : Chars
rdf_nil = codes "http://www.w3.org/1999/02/22-rdf-syntax-ns#nil"
