-- Links: rel and rev, resources, elements that are skipped.
use Rattle.std.specs.Prelude.{List, [], ◌∷◌}
use Rattle.rx_rows.specs.Pages.{Row, row}

abbrev pub rows : List Row
rows =
    row "rel waits for subject" "<html><body><div rel=\"http://v.example/p\"><i property=\"http://v.example/n\">1</i></div></body></html>"
    ("<http://h.example/d> <http://v.example/p> _:b0 ."
    ∷ "_:b0 <http://v.example/n> \"1\" ." ∷ [])
    ∷ row "rel beside property" "<html><body><a property=\"http://v.example/p\" rel=\"nofollow http://v.example/r\" href=\"/x\">t</a></body></html>"
    ("<http://h.example/d> <http://v.example/r> <http://h.example/x> ."
    ∷ "<http://h.example/d> <http://v.example/p> \"t\" ." ∷ [])
    ∷ row "rel without iri beside property" "<html><body><a property=\"http://v.example/p\" rel=\"nofollow\" href=\"/x\">t</a></body></html>"
    ("<http://h.example/d> <http://v.example/p> <http://h.example/x> ." ∷ [])
    ∷ row "rel with label beside property" "<html><body><a property=\"http://v.example/p\" rel=\"_:x\" href=\"#b\">t</a></body></html>"
    ("<http://h.example/d> <http://v.example/p> \"t\" ." ∷ [])
    ∷ row "empty rel beside property" "<html><body><a property=\"http://v.example/p\" rel=\"\" href=\"#b\">t</a></body></html>"
    ("<http://h.example/d> <http://v.example/p> <http://h.example/d#b> ." ∷ [])
    ∷ row "rev waits for subject" "<html><body><div about=\"#a\" rev=\"http://v.example/p\"><div resource=\"#b\"></div></div></body></html>"
    ("<http://h.example/d#b> <http://v.example/p> <http://h.example/d#a> ." ∷ [])
    ∷ row "skipped element completes nothing" "<html><body><div rel=\"http://v.example/p\"><span></span></div></body></html>" []
    ∷ row "rel waits through skipped elements" "<html><body><div rel=\"http://v.example/p\"><span><i about=\"#a\"></i><i about=\"#b\"></i></span></div></body></html>"
    ("<http://h.example/d> <http://v.example/p> <http://h.example/d#a> ."
    ∷ "<http://h.example/d> <http://v.example/p> <http://h.example/d#b> ." ∷ [])
    ∷ row "rel waits no further" "<html><body><div rel=\"http://v.example/p\"><i about=\"#a\"><b about=\"#b\"></b></i></div></body></html>"
    ("<http://h.example/d> <http://v.example/p> <http://h.example/d#a> ." ∷ [])
    ∷ row "rel and rev" "<html><body><a about=\"#a\" rel=\"http://v.example/p\" rev=\"http://v.example/q\" href=\"#b\"></a></body></html>"
    ("<http://h.example/d#a> <http://v.example/p> <http://h.example/d#b> ."
    ∷ "<http://h.example/d#b> <http://v.example/q> <http://h.example/d#a> ." ∷ [])
    ∷ row "rel and rev wait" "<html><body><div about=\"#a\" rel=\"http://v.example/p\" rev=\"http://v.example/q\"><i about=\"#b\"></i></div></body></html>"
    ("<http://h.example/d#a> <http://v.example/p> <http://h.example/d#b> ."
    ∷ "<http://h.example/d#b> <http://v.example/q> <http://h.example/d#a> ." ∷ [])
    ∷ row "resource over href" "<html><body><img rel=\"http://v.example/p\" src=\"#s\" href=\"#h\" resource=\"#r\"></body></html>"
    ("<http://h.example/d> <http://v.example/p> <http://h.example/d#r> ." ∷ [])
    ∷ row "href over src" "<html><body><img rel=\"http://v.example/p\" src=\"#s\" href=\"#h\"></body></html>"
    ("<http://h.example/d> <http://v.example/p> <http://h.example/d#h> ." ∷ [])
    ∷ row "src alone" "<html><body><img rel=\"http://v.example/p\" src=\"#s\"></body></html>"
    ("<http://h.example/d> <http://v.example/p> <http://h.example/d#s> ." ∷ [])
    ∷ row "object is inherited" "<html><body><div rel=\"http://v.example/p\" resource=\"#b\"><p property=\"http://v.example/n\">1</p></div></body></html>"
    ("<http://h.example/d> <http://v.example/p> <http://h.example/d#b> ."
    ∷ "<http://h.example/d#b> <http://v.example/n> \"1\" ." ∷ [])
    ∷ row "type of about beside rel" "<html><body><div about=\"#a\" rel=\"http://v.example/p\" typeof=\"http://v.example/T\"><i about=\"#b\"></i></div></body></html>"
    ("<http://h.example/d#a> <http://www.w3.org/1999/02/22-rdf-syntax-ns#type> <http://v.example/T> ."
    ∷ "<http://h.example/d#a> <http://v.example/p> <http://h.example/d#b> ." ∷ [])
    ∷ row "type of new object beside rel" "<html><body><div rel=\"http://v.example/p\" typeof=\"http://v.example/T\"><p property=\"http://v.example/n\">1</p></div></body></html>"
    ("_:b0 <http://www.w3.org/1999/02/22-rdf-syntax-ns#type> <http://v.example/T> ."
    ∷ "<http://h.example/d> <http://v.example/p> _:b0 ."
    ∷ "_:b0 <http://v.example/n> \"1\" ." ∷ [])
    ∷ row "type of resource beside rel" "<html><body><div rel=\"http://v.example/p\" resource=\"#b\" typeof=\"http://v.example/T\"></div></body></html>"
    ("<http://h.example/d#b> <http://www.w3.org/1999/02/22-rdf-syntax-ns#type> <http://v.example/T> ."
    ∷ "<http://h.example/d> <http://v.example/p> <http://h.example/d#b> ." ∷ [])
    ∷ row "type of about not resource" "<html><body><div about=\"#a\" rel=\"http://v.example/p\" resource=\"#b\" typeof=\"http://v.example/T\"></div></body></html>"
    ("<http://h.example/d#a> <http://www.w3.org/1999/02/22-rdf-syntax-ns#type> <http://v.example/T> ."
    ∷ "<http://h.example/d#a> <http://v.example/p> <http://h.example/d#b> ." ∷ [])
    ∷ row "property names new node" "<html><body><div property=\"http://v.example/p\" typeof=\"http://v.example/T\"><p property=\"http://v.example/n\">1</p></div></body></html>"
    ("_:b0 <http://www.w3.org/1999/02/22-rdf-syntax-ns#type> <http://v.example/T> ."
    ∷ "<http://h.example/d> <http://v.example/p> _:b0 ."
    ∷ "_:b0 <http://v.example/n> \"1\" ." ∷ [])
    ∷ row "property names typed resource"
    "<html><body><div property=\"http://v.example/p\" resource=\"#b\" typeof=\"http://v.example/T\"><p property=\"http://v.example/n\">1</p></div></body></html>"
    ("<http://h.example/d#b> <http://www.w3.org/1999/02/22-rdf-syntax-ns#type> <http://v.example/T> ."
    ∷ "<http://h.example/d> <http://v.example/p> <http://h.example/d#b> ."
    ∷ "<http://h.example/d#b> <http://v.example/n> \"1\" ." ∷ [])
    ∷ row "property names resource" "<html><body><div property=\"http://v.example/p\" resource=\"#b\"><p property=\"http://v.example/n\">1</p></div></body></html>"
    ("<http://h.example/d> <http://v.example/p> <http://h.example/d#b> ."
    ∷ "<http://h.example/d> <http://v.example/n> \"1\" ." ∷ [])
    ∷ row "property beside about and typeof" "<html><body><p about=\"#a\" property=\"http://v.example/p\" typeof=\"http://v.example/T\">x</p></body></html>"
    ("<http://h.example/d#a> <http://www.w3.org/1999/02/22-rdf-syntax-ns#type> <http://v.example/T> ."
    ∷ "<http://h.example/d#a> <http://v.example/p> \"x\" ." ∷ [])
    ∷ []

-- at another address
abbrev pub elsewhere : List Row
elsewhere =
    row "product with offer"
    "<html lang=\"en\">\n<head><title>Anvil</title></head>\n<body vocab=\"http://schema.org/\" typeof=\"Product\">\n<h1 property=\"name\">Anvil</h1>\n<img property=\"image\" src=\"anvil.jpg\" alt=\"\">\n<div property=\"offers\" typeof=\"Offer\">\n<meta property=\"priceCurrency\" content=\"USD\">\n<span property=\"price\" content=\"119.99\">$119.99</span>\n<link property=\"availability\" href=\"http://schema.org/InStock\">\n</div>\n</body>\n</html>"
    ("<http://shop.example/anvil> <http://www.w3.org/ns/rdfa#usesVocabulary> <http://schema.org/> ."
    ∷ "<http://shop.example/anvil> <http://www.w3.org/1999/02/22-rdf-syntax-ns#type> <http://schema.org/Product> ."
    ∷ "<http://shop.example/anvil> <http://schema.org/name> \"Anvil\"@en ."
    ∷ "<http://shop.example/anvil> <http://schema.org/image> <http://shop.example/anvil.jpg> ."
    ∷ "_:b0 <http://www.w3.org/1999/02/22-rdf-syntax-ns#type> <http://schema.org/Offer> ."
    ∷ "<http://shop.example/anvil> <http://schema.org/offers> _:b0 ."
    ∷ "_:b0 <http://schema.org/priceCurrency> \"USD\"@en ."
    ∷ "_:b0 <http://schema.org/price> \"119.99\"@en ."
    ∷ "_:b0 <http://schema.org/availability> <http://schema.org/InStock> ." ∷ [])
    ∷ []
