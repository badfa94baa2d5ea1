-- Attributes: the ways to write their values, each with what is written of it, as the program told it first, read against the rules.
use Rattle.std.specs.Prelude.{List, [], ◌∷◌}
use Rattle.rx_terms.specs.Common.{String}
use Rattle.rx_rows.specs.Pages.{Row, row}

-- a page, by whose text the row is called
abbrev pub says : String → List String → Row
says page lines = row page page lines

abbrev pub rows : List Row
rows =
    says "<html><p about='#a' property='e:p'>x</p></html>" ("<http://h.example/d#a> <e:p> \"x\" ." ∷ [])
    ∷ says "<html><div prefix='e: http://v.example/'><p property='e:p'>x</p></div></html>" ("<http://h.example/d> <http://v.example/p> \"x\" ." ∷ [])
    ∷ says "<html><p property='dc:x'>x</p></html>" ("<http://h.example/d> <http://purl.org/dc/terms/x> \"x\" ." ∷ [])
    ∷ says "<html><p property='DC:x'>x</p></html>" ("<http://h.example/d> <http://purl.org/dc/terms/x> \"x\" ." ∷ [])
    ∷ says "<html><p property=':x _:x x x: //x e://x'>x</p></html>" ("<http://h.example/d> <http://www.w3.org/1999/xhtml/vocab#x> \"x\" ."
    ∷ "<http://h.example/d> <x:> \"x\" ."
    ∷ "<http://h.example/d> <e://x> \"x\" ." ∷ [])
    ∷ says "<html><p property='http://v.example/a&lt;b'>x</p></html>" ("<http://h.example/d> <http://v.example/a%3Cb> \"x\" ." ∷ [])
    ∷ says "<html><p prefix='e: v:a&lt;' property='e:b&lt;'>x</p></html>" ("<http://h.example/d> <v:a%3Cb%3C> \"x\" ." ∷ [])
    ∷ says "<html><p property='license LICENSE role/ x'>x</p></html>" ("<http://h.example/d> <http://www.w3.org/1999/xhtml/vocab#license> \"x\" ." ∷ [])
    ∷ says "<html><p property=' '>x</p></html>" []
    ∷ says "<html><div prefix='e: http://v.example/' typeof='e:T'><p property='e:p e:q e:p' typeof='e:T http://v.example/T'>x</p></div></html>"
    ("_:b0 <http://www.w3.org/1999/02/22-rdf-syntax-ns#type> <http://v.example/T> ."
    ∷ "_:b1 <http://www.w3.org/1999/02/22-rdf-syntax-ns#type> <http://v.example/T> ."
    ∷ "_:b0 <http://v.example/p> _:b1 ."
    ∷ "_:b0 <http://v.example/q> _:b1 ." ∷ [])
    ∷ says "<html><p property='dc:abstract dc:spatial dc:abstract dc:spatial'>x</p></html>" ("<http://h.example/d> <http://purl.org/dc/terms/abstract> \"x\" ."
    ∷ "<http://h.example/d> <http://purl.org/dc/terms/spatial> \"x\" ." ∷ [])
    ∷ says "<html><div vocab='http://v.example/'><p about='[dc:x]' property='t license _:b'>x</p></div></html>"
    ("<http://h.example/d> <http://www.w3.org/ns/rdfa#usesVocabulary> <http://v.example/> ."
    ∷ "<http://purl.org/dc/terms/x> <http://v.example/t> \"x\" ."
    ∷ "<http://purl.org/dc/terms/x> <http://v.example/license> \"x\" ." ∷ [])
    ∷ says "<html><p about='[x]' property='v:p'>x</p></html>" ("<http://h.example/d> <v:p> \"x\" ." ∷ [])
    ∷ says "<html><p about='[]' property='v:p'>x</p></html>" ("<http://h.example/d> <v:p> \"x\" ." ∷ [])
    ∷ says "<html><p about='[' property='v:p'>x</p></html>" ("<http://h.example/[> <v:p> \"x\" ." ∷ [])
    ∷ says "<html><p about='[dc:x' property='v:p'>x</p></html>" ("<http://h.example/[dc:x> <v:p> \"x\" ." ∷ [])
    ∷ says "<html><p about='dc:x]' property='v:p'>x</p></html>" ("<http://purl.org/dc/terms/x]> <v:p> \"x\" ." ∷ [])
    ∷ says "<html><p about=' [dc:x] ' property='v:p'>x</p></html>" ("<http://purl.org/dc/terms/x> <v:p> \"x\" ." ∷ [])
    ∷ says "<html><p about='[ dc:x ]' property='v:p'>x</p></html>" ("<http://h.example/d> <v:p> \"x\" ." ∷ [])
    ∷ says "<html><p about='_:' property='v:p'>x</p></html>" ("_:b0 <v:p> \"x\" ." ∷ [])
    ∷ says "<html><p about='_:b1' resource='[_:b]' property='v:p'>x</p></html>" ("_:b0 <v:p> _:b1 ." ∷ [])
    ∷ says "<html><p about='dc://x' property='v:p'>x</p></html>" ("<dc://x> <v:p> \"x\" ." ∷ [])
    ∷ says "<html><p about='license' property='v:p'>x</p></html>" ("<http://h.example/license> <v:p> \"x\" ." ∷ [])
    ∷ says "<html><p about='' property='v:p'>x</p></html>" ("<http://h.example/d> <v:p> \"x\" ." ∷ [])
    ∷ says "<html><p href='dc:x' src='_:x' property='v:p'>x</p></html>" ("<http://h.example/d> <v:p> <dc:x> ." ∷ [])
    ∷ says "<html><p typeof='_:x dc:T x y:z'>x</p></html>" ("_:b0 <http://www.w3.org/1999/02/22-rdf-syntax-ns#type> _:b1 ."
    ∷ "_:b0 <http://www.w3.org/1999/02/22-rdf-syntax-ns#type> <http://purl.org/dc/terms/T> ."
    ∷ "_:b0 <http://www.w3.org/1999/02/22-rdf-syntax-ns#type> <y:z> ." ∷ [])
    ∷ says "<html><p typeof>x</p></html>" []
    ∷ says "<html><a property='v:p' rel='nofollow v:r' href='/x'>x</a></html>" ("<http://h.example/d> <v:r> <http://h.example/x> ."
    ∷ "<http://h.example/d> <v:p> \"x\" ." ∷ [])
    ∷ says "<html><a property='v:p' rel=nofollow>x</a></html>" ("<http://h.example/d> <v:p> \"x\" ." ∷ [])
    ∷ says "<html><a property='v:p' rel=license rev=''>x</a></html>" ("<http://h.example/d> <v:p> \"x\" ." ∷ [])
    ∷ says "<html><a property='v:p' rel='_:x'>x</a></html>" ("<http://h.example/d> <v:p> \"x\" ." ∷ [])
    ∷ says "<html><a rel=nofollow><i property='v:q'>x</i></a></html>" ("<http://h.example/d> <v:q> \"x\" ." ∷ [])
    ∷ says "<html><a rel=license rev='v:r v:r'><i property='v:q'>x</i></a></html>" ("<http://h.example/d> <http://www.w3.org/1999/xhtml/vocab#license> _:b0 ."
    ∷ "_:b0 <v:r> <http://h.example/d> ."
    ∷ "_:b0 <v:q> \"x\" ." ∷ [])
    ∷ says "<html><div vocab='v:'><a rel=next property=''>x</a></div></html>" ("<http://h.example/d> <http://www.w3.org/ns/rdfa#usesVocabulary> <v:> ." ∷ [])
    ∷ says "<html><p property='v:p' datatype='x y' lang=en datetime=2012>x</p></html>" ("<http://h.example/d> <v:p> \"2012\"@en ." ∷ [])
    ∷ says "<html><p datatype=' xsd:int ' property='v:p'>x</p></html>" ("<http://h.example/d> <v:p> \"x\"^^<http://www.w3.org/2001/XMLSchema#int> ." ∷ [])
    ∷ says "<html><p datatype='dc:x y' property='v:p'>x</p></html>" ("<http://h.example/d> <v:p> \"x\"^^<http://purl.org/dc/terms/x%20y> ." ∷ [])
    ∷ says "<html><p datatype='' property='v:p'>x</p></html>" ("<http://h.example/d> <v:p> \"x\" ." ∷ [])
    ∷ says "<html><p datatype='rdf:langString' property='v:p'>x</p></html>" ("<http://h.example/d> <v:p> \"x\" ." ∷ [])
    ∷ says "<html><p prefix='rdf: http://o.example/' property='v:p' datatype='rdf:XMLLiteral'>x</p></html>" ("<http://h.example/d> <v:p> \"x\"^^<http://o.example/XMLLiteral> ." ∷ [])
    ∷ says "<html><p content='' inlist lang=de><i property='v:p'>x</i></p></html>" ("<http://h.example/d> <v:p> \"x\"@de ." ∷ [])
    ∷ says "<html><p content='' inlist vocab=' v:&lt; ' property='v:p'>x</p></html>" ("<http://h.example/d> <http://www.w3.org/ns/rdfa#usesVocabulary> <v:%3C> ."
    ∷ "<http://h.example/d> <v:p> _:b0 ."
    ∷ "_:b0 <http://www.w3.org/1999/02/22-rdf-syntax-ns#first> \"\" ."
    ∷ "_:b0 <http://www.w3.org/1999/02/22-rdf-syntax-ns#rest> <http://www.w3.org/1999/02/22-rdf-syntax-ns#nil> ." ∷ [])
    ∷ says "<html><p vocab='v:'><i vocab='' property='v:p'>x</i></p></html>" ("<http://h.example/d> <http://www.w3.org/ns/rdfa#usesVocabulary> <v:> ."
    ∷ "<http://h.example/d> <v:p> \"x\" ." ∷ [])
    ∷ says "<html><u property='e:p'>x</u></html>" ("<http://h.example/d> <e:p> \"x\" ." ∷ [])
    ∷ says "<html><u property='DC:p'>x</u></html>" ("<http://h.example/d> <http://purl.org/dc/terms/p> \"x\" ." ∷ [])
    ∷ says "<html><u property=t>x</u></html>" []
    ∷ says "<html><u property='v:p'>x</u></html>" ("<http://h.example/d> <v:p> \"x\" ." ∷ [])
    ∷ says "<html><div prefix='e: http://v.example/'><u property='e:p'>x</u></div></html>" ("<http://h.example/d> <http://v.example/p> \"x\" ." ∷ [])
    ∷ says "<html><p prefix='E: a:b e: c:d f-1: i:j'><u property='e:p'>x</u></p></html>" ("<http://h.example/d> <c:dp> \"x\" ." ∷ [])
    ∷ says "<html><p prefix='f-1: i:j'><b prefix='F-1:\t x:y \n z'><i><u property='F-1:p'>x</u></i></b></p></html>" ("<http://h.example/d> <x:yp> \"x\" ." ∷ [])
    ∷ says "<html><p xmlns:E=' a:b ' prefix='e: c:d'><u property='e:p'>x</u></p></html>" ("<http://h.example/d> <c:dp> \"x\" ." ∷ [])
    ∷ says "<html><p xmlns:E=' a:b '><u property='e:p'>x</u></p></html>" ("<http://h.example/d> <a:bp> \"x\" ." ∷ [])
    ∷ says "<html><p prefix='e: a:b'><b xmlns:e='c:d'><u property='E:p'>x</u></b></p></html>" ("<http://h.example/d> <c:dp> \"x\" ." ∷ [])
    ∷ says "<html><p prefix='dc: i:j'><u property='Dc:p'>x</u></p></html>" ("<http://h.example/d> <i:jp> \"x\" ." ∷ [])
    ∷ says "<html><p prefix='_: a:b'><u property='_:p'>x</u></p></html>" []
    ∷ says "<html><b xmlns:_='a:b'><u property='_:p'>x</u></b></html>" []
    ∷ says "<html><p prefix='1: a:b'><u property='1:p'>x</u></p></html>" []
    ∷ says "<html><p prefix='e: nothing'><u property='e:p'>x</u></p></html>" ("<http://h.example/d> <e:p> \"x\" ." ∷ [])
    ∷ says "<html><p prefix='e: a:b'><b prefix='e: nothing'><u property='e:p'>x</u></b></p></html>" ("<http://h.example/d> <a:bp> \"x\" ." ∷ [])
    ∷ says "<html><p prefix='e: : f: x:y'><u property='e:p'>x</u></p></html>" ("<http://h.example/d> <e:p> \"x\" ." ∷ [])
    ∷ says "<html><p prefix='e: : f: x:y'><u property='f:p'>x</u></p></html>" ("<http://h.example/d> <x:yp> \"x\" ." ∷ [])
    ∷ says "<html><p prefix='x e: a:b'><u property='e:p'>x</u></p></html>" ("<http://h.example/d> <a:bp> \"x\" ." ∷ [])
    ∷ says "<html><p prefix='e:'><u property='e:p'>x</u></p></html>" ("<http://h.example/d> <e:p> \"x\" ." ∷ [])
    ∷ says "<html><p prefix=''><u property='e:p'>x</u></p></html>" ("<http://h.example/d> <e:p> \"x\" ." ∷ [])
    ∷ says "<html><b xmlns:='c:d'><u property=':p'>x</u></b></html>" ("<http://h.example/d> <http://www.w3.org/1999/xhtml/vocab#p> \"x\" ." ∷ [])
    ∷ says "<html><b xmlnse='e:f'><u property='e:p'>x</u></b></html>" ("<http://h.example/d> <e:p> \"x\" ." ∷ [])
    ∷ says "<html><p lang=de><i><u property='v:p'>x</u></i></p></html>" ("<http://h.example/d> <v:p> \"x\"@de ." ∷ [])
    ∷ says "<html><i lang='en-GB' xml:lang='en'><u property='v:p'>x</u></i></html>" ("<http://h.example/d> <v:p> \"x\"@en ." ∷ [])
    ∷ says "<html><p lang=de><b lang=''><u property='v:p'>x</u></b></p></html>" ("<http://h.example/d> <v:p> \"x\" ." ∷ [])
    ∷ says "<html><p lang=de><b lang=' en '><u property='v:p'>x</u></b></p></html>" ("<http://h.example/d> <v:p> \"x\" ." ∷ [])
    ∷ says "<html><p lang=de><b lang=en xml:lang=1><i><u property='v:p'>x</u></i></b></p></html>" ("<http://h.example/d> <v:p> \"x\" ." ∷ [])
    ∷ says "<html><u property=license>x</u></html>" ("<http://h.example/d> <http://www.w3.org/1999/xhtml/vocab#license> \"x\" ." ∷ [])
    ∷ says "<html><p vocab='v:'><u property=LICENSE>x</u></p></html>" ("<http://h.example/d> <http://www.w3.org/ns/rdfa#usesVocabulary> <v:> ."
    ∷ "<http://h.example/d> <v:LICENSE> \"x\" ." ∷ [])
    ∷ says "<html><u property=licens>x</u></html>" []
    ∷ says "<html><u property=cc>x</u></html>" []
    ∷ []
