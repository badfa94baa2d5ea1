-- Property copying.
use Rattle.std.specs.Prelude.{List, [], ◌∷◌}
use Rattle.rx_rows.specs.Pages.{Row, row}

abbrev pub rows : List Row
rows =
    row "two levels"
    "<html><body><div resource=\"#a\" typeof=\"rdfa:Pattern\"><p property=\"http://v.example/p\">1</p><link property=\"rdfa:copy\" href=\"#b\"></div><div resource=\"#b\" typeof=\"rdfa:Pattern\"><p property=\"http://v.example/q\">2</p></div><div resource=\"#s\" typeof=\"http://v.example/T\"><link property=\"rdfa:copy\" href=\"#a\"></div></body></html>"
    ("<http://h.example/d#s> <http://www.w3.org/1999/02/22-rdf-syntax-ns#type> <http://v.example/T> ."
    ∷ "<http://h.example/d#s> <http://v.example/p> \"1\" ."
    ∷ "<http://h.example/d#s> <http://v.example/q> \"2\" ." ∷ [])
    ∷ row "cycle"
    "<html><body><div resource=\"#a\" typeof=\"rdfa:Pattern\"><p property=\"http://v.example/p\">1</p><link property=\"rdfa:copy\" href=\"#b\"></div><div resource=\"#b\" typeof=\"rdfa:Pattern\"><p property=\"http://v.example/q\">2</p><link property=\"rdfa:copy\" href=\"#a\"></div><div resource=\"#s\" typeof=\"http://v.example/T\"><link property=\"rdfa:copy\" href=\"#a\"></div></body></html>"
    ("<http://h.example/d#s> <http://www.w3.org/1999/02/22-rdf-syntax-ns#type> <http://v.example/T> ."
    ∷ "<http://h.example/d#s> <http://v.example/p> \"1\" ."
    ∷ "<http://h.example/d#s> <http://v.example/q> \"2\" ." ∷ [])
    ∷ row "cycle that nothing copies"
    "<html><body><div resource=\"#a\" typeof=\"rdfa:Pattern\"><p property=\"http://v.example/p\">1</p><link property=\"rdfa:copy\" href=\"#b\"></div><div resource=\"#b\" typeof=\"rdfa:Pattern\"><p property=\"http://v.example/q\">2</p><link property=\"rdfa:copy\" href=\"#a\"></div></body></html>" []
    ∷ row "copied resource is no pattern" "<html><body><link property=\"rdfa:copy\" href=\"#a\"></body></html>"
    ("<http://h.example/d> <http://www.w3.org/ns/rdfa#copy> <http://h.example/d#a> ." ∷ [])
    ∷ row "pattern that nothing copies" "<html><body><div resource=\"#a\" typeof=\"rdfa:Pattern\"><p property=\"http://v.example/p\">1</p></div></body></html>"
    ("<http://h.example/d#a> <http://www.w3.org/1999/02/22-rdf-syntax-ns#type> <http://www.w3.org/ns/rdfa#Pattern> ."
    ∷ "<http://h.example/d#a> <http://v.example/p> \"1\" ." ∷ [])
    ∷ row "other types are copied"
    "<html><body><div resource=\"#a\" typeof=\"rdfa:Pattern http://v.example/T\"></div><div about=\"#s\"><link property=\"rdfa:copy\" href=\"#a\"></div></body></html>"
    ("<http://h.example/d#s> <http://www.w3.org/1999/02/22-rdf-syntax-ns#type> <http://v.example/T> ." ∷ [])
    ∷ []
