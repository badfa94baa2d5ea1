-- Lists.
use Rattle.std.specs.Prelude.{List, [], ◌∷◌}
use Rattle.rx_rows.specs.Pages.{Row, row}

abbrev pub rows : List Row
rows =
    row "text at its start" "<html><body><p about=\"#a\" property=\"http://v.example/q\" inlist>ab<b property=\"http://v.example/q\" inlist>c</b></p></body></html>"
    ("<http://h.example/d#a> <http://v.example/q> _:b0 ."
    ∷ "_:b0 <http://www.w3.org/1999/02/22-rdf-syntax-ns#first> \"abc\" ."
    ∷ "_:b0 <http://www.w3.org/1999/02/22-rdf-syntax-ns#rest> _:b1 ."
    ∷ "_:b1 <http://www.w3.org/1999/02/22-rdf-syntax-ns#first> \"c\" ."
    ∷ "_:b1 <http://www.w3.org/1999/02/22-rdf-syntax-ns#rest> <http://www.w3.org/1999/02/22-rdf-syntax-ns#nil> ." ∷ [])
    ∷ row "waiting list" "<html><body><div rel=\"http://v.example/l\" inlist><i property=\"http://v.example/n\">1</i><i property=\"http://v.example/n\">2</i></div></body></html>"
    ("_:b0 <http://v.example/n> \"1\" ."
    ∷ "_:b0 <http://v.example/n> \"2\" ."
    ∷ "<http://h.example/d> <http://v.example/l> _:b1 ."
    ∷ "_:b1 <http://www.w3.org/1999/02/22-rdf-syntax-ns#first> _:b0 ."
    ∷ "_:b1 <http://www.w3.org/1999/02/22-rdf-syntax-ns#rest> _:b2 ."
    ∷ "_:b2 <http://www.w3.org/1999/02/22-rdf-syntax-ns#first> _:b0 ."
    ∷ "_:b2 <http://www.w3.org/1999/02/22-rdf-syntax-ns#rest> <http://www.w3.org/1999/02/22-rdf-syntax-ns#nil> ." ∷ [])
    ∷ row "empty list" "<html><body><div rel=\"http://v.example/l\" inlist></div></body></html>"
    ("<http://h.example/d> <http://v.example/l> <http://www.w3.org/1999/02/22-rdf-syntax-ns#nil> ." ∷ [])
    ∷ row "list below object" "<html><body><div about=\"#a\" rel=\"http://v.example/r\" resource=\"#b\"><i property=\"http://v.example/q\" inlist>x</i></div></body></html>"
    ("<http://h.example/d#a> <http://v.example/r> <http://h.example/d#b> ."
    ∷ "<http://h.example/d#b> <http://v.example/q> _:b0 ."
    ∷ "_:b0 <http://www.w3.org/1999/02/22-rdf-syntax-ns#first> \"x\" ."
    ∷ "_:b0 <http://www.w3.org/1999/02/22-rdf-syntax-ns#rest> <http://www.w3.org/1999/02/22-rdf-syntax-ns#nil> ." ∷ [])
    ∷ row "item by rel" "<html><body><div rel=\"http://v.example/l\" inlist resource=\"#b\"></div></body></html>"
    ("<http://h.example/d> <http://v.example/l> _:b0 ."
    ∷ "_:b0 <http://www.w3.org/1999/02/22-rdf-syntax-ns#first> <http://h.example/d#b> ."
    ∷ "_:b0 <http://www.w3.org/1999/02/22-rdf-syntax-ns#rest> <http://www.w3.org/1999/02/22-rdf-syntax-ns#nil> ." ∷ [])
    ∷ row "rev beside inlist" "<html><body><div rel=\"http://v.example/l\" rev=\"http://v.example/r\" inlist resource=\"#b\"></div></body></html>"
    ("<http://h.example/d#b> <http://v.example/r> <http://h.example/d> ."
    ∷ "<http://h.example/d> <http://v.example/l> _:b0 ."
    ∷ "_:b0 <http://www.w3.org/1999/02/22-rdf-syntax-ns#first> <http://h.example/d#b> ."
    ∷ "_:b0 <http://www.w3.org/1999/02/22-rdf-syntax-ns#rest> <http://www.w3.org/1999/02/22-rdf-syntax-ns#nil> ." ∷ [])
    ∷ row "rev waits beside inlist" "<html><body><div rev=\"http://v.example/r\" inlist><i about=\"#a\"></i></div></body></html>"
    ("<http://h.example/d#a> <http://v.example/r> <http://h.example/d> ." ∷ [])
    ∷ row "lists in order of first item"
    "<html><body><p property=\"http://v.example/q\" inlist content=\"1\"></p><p property=\"http://v.example/l\" inlist content=\"2\"></p><p property=\"http://v.example/q\" inlist content=\"3\"></p></body></html>"
    ("<http://h.example/d> <http://v.example/q> _:b0 ."
    ∷ "_:b0 <http://www.w3.org/1999/02/22-rdf-syntax-ns#first> \"1\" ."
    ∷ "_:b0 <http://www.w3.org/1999/02/22-rdf-syntax-ns#rest> _:b1 ."
    ∷ "_:b1 <http://www.w3.org/1999/02/22-rdf-syntax-ns#first> \"3\" ."
    ∷ "_:b1 <http://www.w3.org/1999/02/22-rdf-syntax-ns#rest> <http://www.w3.org/1999/02/22-rdf-syntax-ns#nil> ."
    ∷ "<http://h.example/d> <http://v.example/l> _:b2 ."
    ∷ "_:b2 <http://www.w3.org/1999/02/22-rdf-syntax-ns#first> \"2\" ."
    ∷ "_:b2 <http://www.w3.org/1999/02/22-rdf-syntax-ns#rest> <http://www.w3.org/1999/02/22-rdf-syntax-ns#nil> ." ∷ [])
    ∷ row "lists end with their element"
    "<html><body><div about=\"#a\"><i property=\"http://v.example/q\" inlist content=\"1\"></i></div><div about=\"#a\"><i property=\"http://v.example/q\" inlist content=\"2\"></i></div></body></html>"
    ("<http://h.example/d#a> <http://v.example/q> _:b0 ."
    ∷ "_:b0 <http://www.w3.org/1999/02/22-rdf-syntax-ns#first> \"1\" ."
    ∷ "_:b0 <http://www.w3.org/1999/02/22-rdf-syntax-ns#rest> <http://www.w3.org/1999/02/22-rdf-syntax-ns#nil> ."
    ∷ "<http://h.example/d#a> <http://v.example/q> _:b1 ."
    ∷ "_:b1 <http://www.w3.org/1999/02/22-rdf-syntax-ns#first> \"2\" ."
    ∷ "_:b1 <http://www.w3.org/1999/02/22-rdf-syntax-ns#rest> <http://www.w3.org/1999/02/22-rdf-syntax-ns#nil> ." ∷ [])
    ∷ row "same subject same list"
    "<html><body><div about=\"#a\"><i about=\"#a\" property=\"http://v.example/q\" inlist content=\"1\"></i><i property=\"http://v.example/q\" inlist content=\"2\"></i></div></body></html>"
    ("<http://h.example/d#a> <http://v.example/q> _:b0 ."
    ∷ "_:b0 <http://www.w3.org/1999/02/22-rdf-syntax-ns#first> \"1\" ."
    ∷ "_:b0 <http://www.w3.org/1999/02/22-rdf-syntax-ns#rest> _:b1 ."
    ∷ "_:b1 <http://www.w3.org/1999/02/22-rdf-syntax-ns#first> \"2\" ."
    ∷ "_:b1 <http://www.w3.org/1999/02/22-rdf-syntax-ns#rest> <http://www.w3.org/1999/02/22-rdf-syntax-ns#nil> ." ∷ [])
    ∷ row "subject that is the object around"
    "<html><body><div about=\"#a\" rel=\"http://v.example/r\" resource=\"#b\"><i about=\"#b\" property=\"http://v.example/q\" inlist content=\"1\"></i><i property=\"http://v.example/q\" inlist content=\"2\"></i></div></body></html>"
    ("<http://h.example/d#a> <http://v.example/r> <http://h.example/d#b> ."
    ∷ "<http://h.example/d#b> <http://v.example/q> _:b0 ."
    ∷ "_:b0 <http://www.w3.org/1999/02/22-rdf-syntax-ns#first> \"1\" ."
    ∷ "_:b0 <http://www.w3.org/1999/02/22-rdf-syntax-ns#rest> _:b1 ."
    ∷ "_:b1 <http://www.w3.org/1999/02/22-rdf-syntax-ns#first> \"2\" ."
    ∷ "_:b1 <http://www.w3.org/1999/02/22-rdf-syntax-ns#rest> <http://www.w3.org/1999/02/22-rdf-syntax-ns#nil> ." ∷ [])
    ∷ row "lists of subject and object"
    "<html><body><div about=\"#a\" rel=\"http://v.example/l\" inlist resource=\"#b\"><i property=\"http://v.example/q\" inlist content=\"1\"></i></div></body></html>"
    ("<http://h.example/d#b> <http://v.example/q> _:b0 ."
    ∷ "_:b0 <http://www.w3.org/1999/02/22-rdf-syntax-ns#first> \"1\" ."
    ∷ "_:b0 <http://www.w3.org/1999/02/22-rdf-syntax-ns#rest> <http://www.w3.org/1999/02/22-rdf-syntax-ns#nil> ."
    ∷ "<http://h.example/d#a> <http://v.example/l> _:b1 ."
    ∷ "_:b1 <http://www.w3.org/1999/02/22-rdf-syntax-ns#first> <http://h.example/d#b> ."
    ∷ "_:b1 <http://www.w3.org/1999/02/22-rdf-syntax-ns#rest> <http://www.w3.org/1999/02/22-rdf-syntax-ns#nil> ." ∷ [])
    ∷ row "text that waits in two lists" "<html><body><p property=\"http://v.example/q http://v.example/l\" inlist>x</p></body></html>"
    ("<http://h.example/d> <http://v.example/q> _:b0 ."
    ∷ "_:b0 <http://www.w3.org/1999/02/22-rdf-syntax-ns#first> \"x\" ."
    ∷ "_:b0 <http://www.w3.org/1999/02/22-rdf-syntax-ns#rest> <http://www.w3.org/1999/02/22-rdf-syntax-ns#nil> ."
    ∷ "<http://h.example/d> <http://v.example/l> _:b1 ."
    ∷ "_:b1 <http://www.w3.org/1999/02/22-rdf-syntax-ns#first> \"x\" ."
    ∷ "_:b1 <http://www.w3.org/1999/02/22-rdf-syntax-ns#rest> <http://www.w3.org/1999/02/22-rdf-syntax-ns#nil> ." ∷ [])
    ∷ []
