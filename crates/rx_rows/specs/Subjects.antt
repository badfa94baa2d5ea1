-- Subjects: about, references, the base.
use Rattle.std.specs.Prelude.{List, [], ◌∷◌}
use Rattle.rx_rows.specs.Pages.{Row, row}

abbrev pub rows : List Row
rows =
    row "one paragraph" "<html><body><p about=\"http://h.example/s\" property=\"http://v.example/p\">Hi</p></body></html>"
    ("<http://h.example/s> <http://v.example/p> \"Hi\" ." ∷ [])
    ∷ row "empty page" "<html></html>" []
    ∷ row "paragraph in paragraph" "<html><p about=\"http://h.example/s\" property=\"http://v.example/p\">a<b about=\"http://h.example/t\" property=\"http://v.example/p\">b</b></p></html>"
    ("<http://h.example/t> <http://v.example/p> \"b\" ."
    ∷ "<http://h.example/s> <http://v.example/p> \"ab\" ." ∷ [])
    ∷ row "same paragraph twice"
    "<html><body><p about=\"http://h.example/s\" property=\"http://v.example/p\">Hi</p><p about=\"http://h.example/s\" property=\"http://v.example/p\">Hi</p></body></html>"
    ("<http://h.example/s> <http://v.example/p> \"Hi\" ." ∷ [])
    ∷ row "content for text"
    "<html><p about=\"http://h.example/s\" property=\"http://v.example/p\">a<b about=\"http://h.example/t\" property=\"http://v.example/p\" content=\"c\">b</b></p></html>"
    ("<http://h.example/t> <http://v.example/p> \"c\" ."
    ∷ "<http://h.example/s> <http://v.example/p> \"ab\" ." ∷ [])
    ∷ row "references in content" "<html><p about=\"http://h.example/s\" property=\"http://v.example/p\" content=\"<A\" class=\"\" title=\"x\"></p></html>"
    ("<http://h.example/s> <http://v.example/p> \"<A\" ." ∷ [])
    ∷ row "label and new node" "<html><body><p about=\"_:b1\" property=\"http://v.example/p\">x</p><p typeof=\"http://v.example/T\"></p></body></html>"
    ("_:b0 <http://v.example/p> \"x\" ."
    ∷ "_:b1 <http://www.w3.org/1999/02/22-rdf-syntax-ns#type> <http://v.example/T> ." ∷ [])
    ∷ row "base in head" "<html vocab=\"http://v.example/\" typeof=\"T\"><head><base href=\"http://o.example/x#y\"></head></html>"
    ("<http://o.example/x> <http://www.w3.org/ns/rdfa#usesVocabulary> <http://v.example/> ."
    ∷ "<http://o.example/x> <http://www.w3.org/1999/02/22-rdf-syntax-ns#type> <http://v.example/T> ." ∷ [])
    ∷ row "empty about is the base" "<html><body><div about=\"#a\"><p about=\"\" property=\"http://v.example/p\">x</p></div></body></html>"
    ("<http://h.example/d> <http://v.example/p> \"x\" ." ∷ [])
    ∷ row "first base with href" "<html><head><base><base href=\"sub/\"><base href=\"http://o.example/\"></head><body property=\"http://v.example/p\">x</body></html>"
    ("<http://h.example/sub/> <http://v.example/p> \"x\" ." ∷ [])
    ∷ row "base below a child of head" "<html><head><i><base href=\"http://o.example/\"></i></head><body property=\"http://v.example/p\">x</body></html>"
    ("<http://h.example/d> <http://v.example/p> \"x\" ." ∷ [])
    ∷ row "head that is not first (own rule)" "<html><body property=\"http://v.example/p\">x</body><head><base href=\"http://o.example/\"></head></html>"
    ("<http://h.example/d> <http://v.example/p> \"x\" ." ∷ [])
    ∷ row "body stands for the page"
    "<html><head><title property=\"http://v.example/t\">x</title></head><body typeof=\"http://v.example/T\"><p property=\"http://v.example/p\">y</p></body></html>"
    ("<http://h.example/d> <http://v.example/t> \"x\" ."
    ∷ "<http://h.example/d> <http://www.w3.org/1999/02/22-rdf-syntax-ns#type> <http://v.example/T> ."
    ∷ "<http://h.example/d> <http://v.example/p> \"y\" ." ∷ [])
    ∷ row "body is its own value (own rule)" "<html><body property=\"http://v.example/p\" typeof=\"http://v.example/T\">x</body></html>"
    ("<http://h.example/d> <http://www.w3.org/1999/02/22-rdf-syntax-ns#type> <http://v.example/T> ."
    ∷ "<http://h.example/d> <http://v.example/p> <http://h.example/d> ." ∷ [])
    ∷ row "body further down (own rule: only a child of the root stands for the page)" "<html><body><div><body typeof=\"http://v.example/T\"></body></div></body></html>"
    ("_:b0 <http://www.w3.org/1999/02/22-rdf-syntax-ns#type> <http://v.example/T> ." ∷ [])
    ∷ row "every head stands for the page (own rule)" "<html><head></head><head typeof=\"http://v.example/T\"></head></html>"
    ("<http://h.example/d> <http://www.w3.org/1999/02/22-rdf-syntax-ns#type> <http://v.example/T> ." ∷ [])
    ∷ row "root with property" "<html property=\"http://v.example/p\" typeof=\"http://v.example/T\" resource=\"#r\"></html>"
    ("<http://h.example/d> <http://www.w3.org/1999/02/22-rdf-syntax-ns#type> <http://v.example/T> ."
    ∷ "<http://h.example/d> <http://v.example/p> <http://h.example/d#r> ." ∷ [])
    ∷ row "root with resource" "<html resource=\"#r\"><p property=\"http://v.example/p\">x</p></html>"
    ("<http://h.example/d#r> <http://v.example/p> \"x\" ." ∷ [])
    ∷ row "root with rel" "<html rel=\"http://v.example/p\" resource=\"#r\"></html>"
    ("<http://h.example/d> <http://v.example/p> <http://h.example/d#r> ." ∷ [])
    ∷ row "root with about" "<html about=\"#a\" rel=\"http://v.example/p\" resource=\"#r\"></html>"
    ("<http://h.example/d#a> <http://v.example/p> <http://h.example/d#r> ." ∷ [])
    ∷ row "resource is the subject" "<html><body><div resource=\"#b\"><p property=\"http://v.example/p\">x</p></div></body></html>"
    ("<http://h.example/d#b> <http://v.example/p> \"x\" ." ∷ [])
    ∷ row "about over resource" "<html><body><div about=\"#a\" resource=\"#b\"><p property=\"http://v.example/p\">x</p></div></body></html>"
    ("<http://h.example/d#a> <http://v.example/p> \"x\" ." ∷ [])
    ∷ row "new node by typeof" "<html><body><div typeof=\"http://v.example/T\"><p property=\"http://v.example/p\">x</p></div></body></html>"
    ("_:b0 <http://www.w3.org/1999/02/22-rdf-syntax-ns#type> <http://v.example/T> ."
    ∷ "_:b0 <http://v.example/p> \"x\" ." ∷ [])
    ∷ row "several types (own rule: a blank node may be a type)" "<html><body><p about=\"#a\" typeof=\"http://v.example/T nothing _:t\"></p></body></html>"
    ("<http://h.example/d#a> <http://www.w3.org/1999/02/22-rdf-syntax-ns#type> <http://v.example/T> ."
    ∷ "<http://h.example/d#a> <http://www.w3.org/1999/02/22-rdf-syntax-ns#type> _:b0 ." ∷ [])
    ∷ []

-- at another address
abbrev pub elsewhere : List Row
elsewhere =
    row "relative about" "<html><body><div about=\"s\"><p property=\"http://v.example/p\">x</p></div><p property=\"http://v.example/p\" content=\"y\">z</p></body></html>"
    ("<http://h.example/a/s> <http://v.example/p> \"x\" ."
    ∷ "<http://h.example/a/d> <http://v.example/p> \"y\" ." ∷ [])
    ∷ []
