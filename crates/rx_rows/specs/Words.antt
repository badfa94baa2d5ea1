-- Names: prefixes, the vocabulary, terms and CURIEs.
use Rattle.std.specs.Prelude.{List, [], ◌∷◌}
use Rattle.rx_rows.specs.Pages.{Row, row}

abbrev pub rows : List Row
rows =
    row "prefix on skipped element"
    "<html><body><p about=\"#a\" property=\"e:p\">1</p><div prefix=\"e: http://v.example/\"><p about=\"#a\" property=\"e:p\">1</p></div><p about=\"#a\" property=\"e:p\">2</p></body></html>"
    ("<http://h.example/d#a> <e:p> \"1\" ."
    ∷ "<http://h.example/d#a> <http://v.example/p> \"1\" ."
    ∷ "<http://h.example/d#a> <e:p> \"2\" ." ∷ [])
    ∷ row "vocabulary and safe curie" "<html><body><div vocab=\"http://v.example/\"><p about=\"[dc:x]\" property=\"t license _:b\">x</p></div></body></html>"
    ("<http://h.example/d> <http://www.w3.org/ns/rdfa#usesVocabulary> <http://v.example/> ."
    ∷ "<http://purl.org/dc/terms/x> <http://v.example/t> \"x\" ."
    ∷ "<http://purl.org/dc/terms/x> <http://v.example/license> \"x\" ." ∷ [])
    ∷ row "vocabulary is reset" "<html><body><div vocab=\"http://v.example/\"><p vocab=\"\" property=\"t license\">x</p></div></body></html>"
    ("<http://h.example/d> <http://www.w3.org/ns/rdfa#usesVocabulary> <http://v.example/> ."
    ∷ "<http://h.example/d> <http://www.w3.org/1999/xhtml/vocab#license> \"x\" ." ∷ [])
    ∷ row "vocabulary is cleaned" "<html><body><p vocab=\" http://v.example/^ \" property=\"t\">x</p></body></html>"
    ("<http://h.example/d> <http://www.w3.org/ns/rdfa#usesVocabulary> <http://v.example/%5E> ."
    ∷ "<http://h.example/d> <http://v.example/%5Et> \"x\" ." ∷ [])
    ∷ row "term in capitals" "<html><body><p property=\"LICENSE\">x</p></body></html>"
    ("<http://h.example/d> <http://www.w3.org/1999/xhtml/vocab#license> \"x\" ." ∷ [])
    ∷ row "prefix in capitals" "<html><body><p property=\"DC:title\">x</p></body></html>"
    ("<http://h.example/d> <http://purl.org/dc/terms/title> \"x\" ." ∷ [])
    ∷ row "empty prefix" "<html><body><p property=\":p\">x</p></body></html>"
    ("<http://h.example/d> <http://www.w3.org/1999/xhtml/vocab#p> \"x\" ." ∷ [])
    ∷ row "two slashes are no curie" "<html><body><p property=\"dc://x\">x</p></body></html>"
    ("<http://h.example/d> <dc://x> \"x\" ." ∷ [])
    ∷ row "last prefix counts" "<html><body><p prefix=\"E: http://w.example/ e: http://v.example/\" property=\"e:p\">x</p></body></html>"
    ("<http://h.example/d> <http://v.example/p> \"x\" ." ∷ [])
    ∷ row "prefix after xmlns" "<html><body><p prefix=\"e: http://v.example/\" xmlns:e=\"http://w.example/\" property=\"e:p\">x</p></body></html>"
    ("<http://h.example/d> <http://v.example/p> \"x\" ." ∷ [])
    ∷ row "xmlns is trimmed" "<html><body><p xmlns:e=\" http://v.example/ \" property=\"e:p\">x</p></body></html>"
    ("<http://h.example/d> <http://v.example/p> \"x\" ." ∷ [])
    ∷ row "nearest prefix counts" "<html><body><div prefix=\"e: http://w.example/\"><p prefix=\"e: http://v.example/\" property=\"e:p\">x</p></div></body></html>"
    ("<http://h.example/d> <http://v.example/p> \"x\" ." ∷ [])
    ∷ row "prefix without scheme (own rule)" "<html><body><p prefix=\"e: v/\" property=\"e:p\">x</p></body></html>"
    ("<http://h.example/d> <e:p> \"x\" ." ∷ [])
    ∷ row "tokens that are no pair (own rule)" "<html><body><p prefix=\"e http://w.example/ f: http://v.example/ g:\" property=\"f:p\">x</p></body></html>"
    ("<http://h.example/d> <http://v.example/p> \"x\" ." ∷ [])
    ∷ row "underscore is no prefix" "<html><body><p prefix=\"_: http://v.example/\" about=\"_:x\" property=\"http://v.example/p\">x</p></body></html>"
    ("_:b0 <http://v.example/p> \"x\" ." ∷ [])
    ∷ row "safe curie without curie (own rule: the attribute counts as absent)" "<html><body><div about=\"#a\"><p about=\"[x]\" property=\"http://v.example/p\">x</p></div></body></html>"
    ("<http://h.example/d#a> <http://v.example/p> \"x\" ." ∷ [])
    ∷ row "safe curie is not trimmed inside (own rule)" "<html><body><div about=\"#a\"><p about=\"[ dc:x]\" property=\"http://v.example/p\">x</p></div></body></html>"
    ("<http://h.example/d#a> <http://v.example/p> \"x\" ." ∷ [])
    ∷ row "bracket alone is a reference (own rule)" "<html><body><p about=\"[\" property=\"http://v.example/p\">x</p></body></html>"
    ("<http://h.example/[> <http://v.example/p> \"x\" ." ∷ [])
    ∷ row "pair with a name that does not count (own rule: pairs are made first and judged afterwards)"
    "<html><body><p prefix=\"1: f: http://v.example/\" property=\"f:p\">x</p></body></html>"
    ("<http://h.example/d> <f:p> \"x\" ." ∷ [])
    ∷ row "curie or reference" "<html><body><p about=\"dc:x\" rel=\"http://v.example/p\" href=\"dc:x\"></p></body></html>"
    ("<http://purl.org/dc/terms/x> <http://v.example/p> <dc:x> ." ∷ [])
    ∷ row "resource as curie" "<html><body><p rel=\"http://v.example/p\" resource=\"dc:x\"></p></body></html>"
    ("<http://h.example/d> <http://v.example/p> <http://purl.org/dc/terms/x> ." ∷ [])
    ∷ []
