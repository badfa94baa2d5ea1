-- Values of property: content, datatypes, times, languages.
use Rattle.std.specs.Prelude.{List, [], ◌∷◌}
use Rattle.rx_rows.specs.Pages.{Row, row}

abbrev pub rows : List Row
rows =
    row "times"
    "<html><body><time property=\"http://v.example/t\">2012-05</time><time property=\"http://v.example/t\">2012-05:00</time><time property=\"http://v.example/t\">-P1DT0.5S</time><time property=\"http://v.example/t\">24:00:00.0+14:00</time><time property=\"http://v.example/t\">2012-01-01T10:00</time></body></html>"
    ("<http://h.example/d> <http://v.example/t> \"2012-05\"^^<http://www.w3.org/2001/XMLSchema#gYearMonth> ."
    ∷ "<http://h.example/d> <http://v.example/t> \"2012-05:00\"^^<http://www.w3.org/2001/XMLSchema#gYear> ."
    ∷ "<http://h.example/d> <http://v.example/t> \"-P1DT0.5S\"^^<http://www.w3.org/2001/XMLSchema#duration> ."
    ∷ "<http://h.example/d> <http://v.example/t> \"24:00:00.0+14:00\"^^<http://www.w3.org/2001/XMLSchema#time> ."
    ∷ "<http://h.example/d> <http://v.example/t> \"2012-01-01T10:00\" ." ∷ [])
    ∷ row "languages and datatypes"
    "<html><body><p lang=\"de\" about=\"#a\"><i property=\"http://v.example/p\">x</i><i property=\"http://v.example/q\" datatype=\"xsd:string\">y</i><i property=\"http://v.example/r\" datatype=\"xsd:int\">7</i><i property=\"http://v.example/s\" lang=\"\">z</i></p></body></html>"
    ("<http://h.example/d#a> <http://v.example/p> \"x\"@de ."
    ∷ "<http://h.example/d#a> <http://v.example/q> \"y\" ."
    ∷ "<http://h.example/d#a> <http://v.example/r> \"7\"^^<http://www.w3.org/2001/XMLSchema#int> ."
    ∷ "<http://h.example/d#a> <http://v.example/s> \"z\" ." ∷ [])
    ∷ row "unreadable datatype" "<html><body><p about=\"#a\" property=\"http://v.example/p\" datatype=\"x y\" lang=\"en\" datetime=\"2012\">t</p></body></html>"
    ("<http://h.example/d#a> <http://v.example/p> \"2012\"@en ." ∷ [])
    ∷ row "datatype with white space (own rule: trimmed, it is one token)" "<html><body><p property=\"http://v.example/p\" datatype=\" dc:x y \">t</p></body></html>"
    ("<http://h.example/d> <http://v.example/p> \"t\"^^<http://purl.org/dc/terms/x%20y> ." ∷ [])
    ∷ row "no text" "<html><body><p property=\"http://v.example/p\"></p></body></html>"
    ("<http://h.example/d> <http://v.example/p> \"\" ." ∷ [])
    ∷ row "two predicates" "<html><body><p property=\"http://v.example/p http://v.example/q\">x</p></body></html>"
    ("<http://h.example/d> <http://v.example/p> \"x\" ."
    ∷ "<http://h.example/d> <http://v.example/q> \"x\" ." ∷ [])
    ∷ row "datatype of content" "<html><body><p property=\"http://v.example/p\" datatype=\"xsd:int\" content=\"7\" datetime=\"2012\">t</p></body></html>"
    ("<http://h.example/d> <http://v.example/p> \"7\"^^<http://www.w3.org/2001/XMLSchema#int> ." ∷ [])
    ∷ row "datatype of datetime" "<html><body><p property=\"http://v.example/p\" datatype=\"xsd:date\" datetime=\"2012\">t</p></body></html>"
    ("<http://h.example/d> <http://v.example/p> \"2012\"^^<http://www.w3.org/2001/XMLSchema#date> ." ∷ [])
    ∷ row "datatype over resource (with a datatype the resource is the subject)" "<html><body><a property=\"http://v.example/p\" datatype=\"\" href=\"#b\">t</a></body></html>"
    ("<http://h.example/d#b> <http://v.example/p> \"t\" ." ∷ [])
    ∷ row "datatype of language (own rule)" "<html><body><p lang=\"en\" property=\"http://v.example/p\" datatype=\"rdf:langString\">x</p></body></html>"
    ("<http://h.example/d> <http://v.example/p> \"x\"@en ." ∷ [])
    ∷ row "content over datetime" "<html><body><p property=\"http://v.example/p\" content=\"c\" datetime=\"2012\">t</p></body></html>"
    ("<http://h.example/d> <http://v.example/p> \"c\" ." ∷ [])
    ∷ row "content over resource (with content the resource is the subject)" "<html><body><a property=\"http://v.example/p\" content=\"c\" href=\"#b\">t</a></body></html>"
    ("<http://h.example/d#b> <http://v.example/p> \"c\" ." ∷ [])
    ∷ row "datetime over resource" "<html><body><a property=\"http://v.example/p\" datetime=\"2012\" href=\"#b\">t</a></body></html>"
    ("<http://h.example/d> <http://v.example/p> \"2012\"^^<http://www.w3.org/2001/XMLSchema#gYear> ." ∷ [])
    ∷ row "datetime over time" "<html><body><time property=\"http://v.example/p\" datetime=\"2012-05\">2012</time></body></html>"
    ("<http://h.example/d> <http://v.example/p> \"2012-05\"^^<http://www.w3.org/2001/XMLSchema#gYearMonth> ." ∷ [])
    ∷ row "datetime without form" "<html><body><p lang=\"en\" property=\"http://v.example/p\" datetime=\"soon\">t</p></body></html>"
    ("<http://h.example/d> <http://v.example/p> \"soon\"@en ." ∷ [])
    ∷ row "time over resource (own rule)" "<html><body><time property=\"http://v.example/p\" resource=\"#b\">2012</time></body></html>"
    ("<http://h.example/d> <http://v.example/p> \"2012\"^^<http://www.w3.org/2001/XMLSchema#gYear> ." ∷ [])
    ∷ row "datetime and typeof (own rule: datetime leaves the subject as it is)"
    "<html><body><p property=\"http://v.example/p\" datetime=\"2012\" typeof=\"http://v.example/T\"></p></body></html>"
    ("_:b0 <http://www.w3.org/1999/02/22-rdf-syntax-ns#type> <http://v.example/T> ."
    ∷ "<http://h.example/d> <http://v.example/p> \"2012\"^^<http://www.w3.org/2001/XMLSchema#gYear> ." ∷ [])
    ∷ row "content and typeof" "<html><body><p property=\"http://v.example/p\" content=\"c\" typeof=\"http://v.example/T\"></p></body></html>"
    ("_:b0 <http://www.w3.org/1999/02/22-rdf-syntax-ns#type> <http://v.example/T> ."
    ∷ "_:b0 <http://v.example/p> \"c\" ." ∷ [])
    ∷ row "datatype and typeof" "<html><body><p property=\"http://v.example/p\" datatype=\"xsd:int\" typeof=\"http://v.example/T\">7</p></body></html>"
    ("_:b0 <http://www.w3.org/1999/02/22-rdf-syntax-ns#type> <http://v.example/T> ."
    ∷ "_:b0 <http://v.example/p> \"7\"^^<http://www.w3.org/2001/XMLSchema#int> ." ∷ [])
    ∷ row "xml lang over lang" "<html><body><p lang=\"de\" xml:lang=\"fr-CA\" property=\"http://v.example/p\">x</p></body></html>"
    ("<http://h.example/d> <http://v.example/p> \"x\"@fr-CA ." ∷ [])
    ∷ row "nearest language" "<html><body><div xml:lang=\"fr\"><p lang=\"de\" property=\"http://v.example/p\">x</p></div></body></html>"
    ("<http://h.example/d> <http://v.example/p> \"x\"@de ." ∷ [])
    ∷ row "invalid language (own rule)" "<html><body><div lang=\"de\"><p lang=\" en\" property=\"http://v.example/p\">x</p></div></body></html>"
    ("<http://h.example/d> <http://v.example/p> \"x\" ." ∷ [])
    ∷ []
