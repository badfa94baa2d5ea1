-- Worked examples of the layout: a context, triples, and their text.
use Rattle.std.specs.Prelude.{◌≡◌, ℕ, List, [], ◌∷◌, ◌++◌, codes, bytes_eq, get_or, if◌then◌else◌}
use Rattle.rx_terms.specs.Common.{String}
use Rattle.rx_model.specs.Common.{Chars, Plain, Tagged, Typed, Node, Iri, Blank, Term, Resource, Literal, Triple, spo, rdf_type}
use Rattle.rx_shapes.specs.declared.shapes.Shape.{Shape}
use Rattle.rx_shapes.specs.declared.shapes.Shape.TheVariants.{Labelled, Inside, Cell}
use Rattle.rx_notation.specs.Short.{Prefixes}
use Rattle.rx_notation.specs.Layout.{turtle}
use Rattle.rx_notation.specs.Nesting.{nested}

-- a context, triples, the shapes of the blank nodes 0, 1, 2 and so on, and the text
pub record Row : Type 0 where
  pub context : Prefixes
  pub list : List (Triple ℕ)
  pub shapes : List Shape
  pub text : String

abbrev pub row : Prefixes → List (Triple ℕ) → List Shape → String → Row
row context list shapes text = record { context = context; list = list; shapes = shapes; text = text }

abbrev pub turtle_of : Row → Chars
turtle_of r = turtle r.context r.list

abbrev pub nested_of : Row → Chars
nested_of r = nested r.context r.list (λ number. get_or r.shapes number Labelled)

-- the texts of the rows that have another
abbrev pub wrong : (Row → Chars) → List Row → List String
wrong text_of [] = []
wrong text_of (r ∷ rows) = if bytes_eq (text_of r) (codes r.text) then wrong text_of rows else r.text ∷ wrong text_of rows

abbrev pub rdf : Chars
rdf = codes "http://www.w3.org/1999/02/22-rdf-syntax-ns#"

abbrev pub xsd : Chars
xsd = codes "http://www.w3.org/2001/XMLSchema#"

abbrev pub schema : Chars
schema = codes "http://schema.org/"

abbrev pub common : Prefixes
common =
    (codes "dc", codes "http://purl.org/dc/terms/")
    ∷ (codes "foaf", codes "http://xmlns.com/foaf/0.1/")
    ∷ (codes "rdf", rdf)
    ∷ (codes "rdfa", codes "http://www.w3.org/ns/rdfa#")
    ∷ (codes "schema", schema)
    ∷ (codes "xsd", xsd)
    ∷ []

abbrev pub iri : Chars → Term ℕ
iri text = Resource (Iri text)

abbrev pub blank : ℕ → Term ℕ
blank number = Resource (Blank number)

abbrev pub plain : Chars → Term ℕ
plain text = Literal text Plain

abbrev pub v : Chars → Chars
v name = codes "http://v.example/" ++ name

abbrev pub page : Node ℕ
page = Iri (codes "h:d")

abbrev pub knows : Chars
knows = codes "v:k"

abbrev pub likes : Chars
likes = codes "v:l"

-- a list's cell
abbrev pub cell : ℕ → Term ℕ → Term ℕ → List (Triple ℕ) → List (Triple ℕ)
cell number item after more = spo (Blank number) (rdf ++ codes "first") item ∷ spo (Blank number) (rdf ++ codes "rest") after ∷ more

abbrev pub nil : Term ℕ
nil = iri (rdf ++ codes "nil")

-- a product, its parts in English, and an offer that has no name
abbrev pub anvil : Node ℕ
anvil = Iri (codes "http://shop.example/anvil")

abbrev pub english : Chars → Term ℕ
english text = Literal text (Tagged (codes "en"))

abbrev pub product : List (Triple ℕ)
product =
    spo anvil (codes "http://www.w3.org/ns/rdfa#usesVocabulary") (iri schema)
    ∷ spo anvil rdf_type (iri (schema ++ codes "Product"))
    ∷ spo anvil (schema ++ codes "name") (english (codes "Anvil"))
    ∷ spo anvil (schema ++ codes "image") (iri (codes "http://shop.example/anvil.jpg"))
    ∷ spo (Blank 0) rdf_type (iri (schema ++ codes "Offer"))
    ∷ spo anvil (schema ++ codes "offers") (blank 0)
    ∷ spo (Blank 0) (schema ++ codes "priceCurrency") (english (codes "USD"))
    ∷ spo (Blank 0) (schema ++ codes "price") (english (codes "119.99"))
    ∷ spo (Blank 0) (schema ++ codes "availability") (iri (schema ++ codes "InStock"))
    ∷ []

-- a collection
abbrev pub cells : List (Triple ℕ)
cells = spo (Iri (codes "http://h.example/d#a")) (v (codes "q")) (blank 0) ∷ cell 0 (plain (codes "abc")) (blank 1) (cell 1 (plain (codes "c")) nil [])

abbrev pub flat_rows : List Row
flat_rows =
    row common product []
    "@prefix rdfa: <http://www.w3.org/ns/rdfa#> .\n@prefix schema: <http://schema.org/> .\n\n<http://shop.example/anvil> rdfa:usesVocabulary <http://schema.org/> ;\n    a schema:Product ;\n    schema:name \"Anvil\"@en ;\n    schema:image <http://shop.example/anvil.jpg> ;\n    schema:offers _:b0 .\n_:b0 a schema:Offer ;\n    schema:priceCurrency \"USD\"@en ;\n    schema:price \"119.99\"@en ;\n    schema:availability schema:InStock .\n"
    -- cell by cell
    ∷ row common cells []
    "@prefix rdf: <http://www.w3.org/1999/02/22-rdf-syntax-ns#> .\n\n<http://h.example/d#a> <http://v.example/q> _:b0 .\n_:b0 rdf:first \"abc\" ;\n    rdf:rest _:b1 .\n_:b1 rdf:first \"c\" ;\n    rdf:rest rdf:nil .\n"
    ∷ row common [] [] ""
    -- of prefixes that overlap the longest IRI is taken, then the least name; their lines stand in byte order
    ∷ row ((codes "z", v (codes "n/")) ∷ (codes "w", v []) ∷ (codes "B", v []) ∷ (codes "a-b", v []) ∷ (codes "0", v []) ∷ (codes "", v []) ∷ [])
    (spo (Iri (v (codes "n/x"))) (v (codes "y")) (iri (v (codes "n/"))) ∷ spo (Iri (v (codes "n/x"))) (v (codes "n/y")) (iri (v [])) ∷ []) []
    "@prefix B: <http://v.example/> .\n@prefix z: <http://v.example/n/> .\n\nz:x B:y <http://v.example/n/> ;\n    z:y <http://v.example/> .\n"
    -- what no local name has is written in full: a digit first, a full stop, a letter beyond ASCII; and only what is used has a line
    ∷ row ((codes "u", codes "http://u.example/") ∷ (codes "v", v []) ∷ [])
    (spo (Iri (v (codes "1x"))) (v (codes "x.y")) (iri (v (codes "é"))) ∷ spo (Iri (v (codes "1x"))) (v (codes "_1-a")) (iri (v (codes "-x"))) ∷ []) []
    "@prefix v: <http://v.example/> .\n\n<http://v.example/1x> <http://v.example/x.y> <http://v.example/é> ;\n    v:_1-a <http://v.example/-x> .\n"
    -- rdf:type is `a` only as a predicate
    ∷ row common (spo (Iri rdf_type) rdf_type (iri rdf_type) ∷ spo (Iri rdf_type) rdf_type (iri (v (codes "T"))) ∷ []) []
    "@prefix rdf: <http://www.w3.org/1999/02/22-rdf-syntax-ns#> .\n\nrdf:type a rdf:type , <http://v.example/T> .\n"
    -- and where it is nothing else its prefix isn't used
    ∷ row common (spo (Blank 10) rdf_type (iri (v (codes "T"))) ∷ []) [] "_:b10 a <http://v.example/T> .\n"
    -- the characters that have an escape, others beside them, and a datatype in its short form
    ∷ row common
    (spo (Blank 0) (v (codes "p")) (plain (codes "\" \\ \n \r \t ' é"))
    ∷ spo (Blank 0) (v (codes "p")) (Literal [] (Tagged (codes "de-CH")))
    ∷ spo (Blank 0) (v (codes "p")) (Literal (codes "7") (Typed (xsd ++ codes "int")))
    ∷ spo (Blank 0) (v (codes "p")) (Literal (codes "7") (Typed (v (codes "d"))))
    ∷ []) []
    "@prefix xsd: <http://www.w3.org/2001/XMLSchema#> .\n\n_:b0 <http://v.example/p> \"\\\" \\\\ \\n \\r \t ' é\" , \"\"@de-CH , \"7\"^^xsd:int , \"7\"^^<http://v.example/d> .\n"
    -- subjects and predicates in order of first occurrence, each once
    ∷ row []
    (spo (Blank 1) (v (codes "p")) (blank 0)
    ∷ spo (Blank 0) (v (codes "p")) (blank 1)
    ∷ spo (Blank 1) (v (codes "q")) (blank 1)
    ∷ spo (Blank 0) (v (codes "r")) (blank 0)
    ∷ spo (Blank 1) (v (codes "p")) (blank 1)
    ∷ []) []
    "_:b1 <http://v.example/p> _:b0 , _:b1 ;\n    <http://v.example/q> _:b1 .\n_:b0 <http://v.example/p> _:b1 ;\n    <http://v.example/r> _:b0 .\n"
    ∷ []

abbrev pub nested_rows : List Row
nested_rows =
    row common cells (Cell ∷ Cell ∷ []) "<http://h.example/d#a> <http://v.example/q> ( \"abc\" \"c\" ) .\n"
    ∷ row common (spo page knows nil ∷ []) [] "<h:d> <v:k> () .\n"
    -- a node that is used twice has a label
    ∷ row common
    (spo (Blank 0) (v (codes "n")) (plain (codes "1"))
    ∷ spo (Blank 0) (v (codes "n")) (plain (codes "2"))
    ∷ spo page likes (blank 1)
    ∷ cell 1 (blank 0) (blank 2) (cell 2 (blank 0) nil []))
    (Labelled ∷ Cell ∷ Cell ∷ []) "_:b0 <http://v.example/n> \"1\" , \"2\" .\n<h:d> <v:l> ( _:b0 _:b0 ) .\n"
    -- an offer that has no name, where it is used
    ∷ row common product (Inside ∷ [])
    "@prefix rdfa: <http://www.w3.org/ns/rdfa#> .\n@prefix schema: <http://schema.org/> .\n\n<http://shop.example/anvil> rdfa:usesVocabulary <http://schema.org/> ;\n    a schema:Product ;\n    schema:name \"Anvil\"@en ;\n    schema:image <http://shop.example/anvil.jpg> ;\n    schema:offers [ a schema:Offer ; schema:priceCurrency \"USD\"@en ; schema:price \"119.99\"@en ; schema:availability schema:InStock ] .\n"
    -- cycles are written by labels, and what hangs from them too
    ∷ row [] (spo (Blank 0) knows (blank 1) ∷ spo (Blank 1) knows (blank 0) ∷ spo (Blank 1) likes (blank 2) ∷ []) []
    "_:b0 <v:k> _:b1 .\n_:b1 <v:k> _:b0 ;\n    <v:l> _:b2 .\n"
    -- a cell with a third triple is none, nor are those before it
    ∷ row common (spo page knows (blank 0) ∷ cell 0 (Resource page) (blank 1) (cell 1 (Resource page) nil (spo (Blank 1) likes (Resource page) ∷ [])))
    (Inside ∷ Inside ∷ [])
    "@prefix rdf: <http://www.w3.org/1999/02/22-rdf-syntax-ns#> .\n\n<h:d> <v:k> [ rdf:first <h:d> ; rdf:rest [ rdf:first <h:d> ; rdf:rest () ; <v:l> <h:d> ] ] .\n"
    ∷ row common (spo page knows (blank 0) ∷ cell 0 (blank 1) (blank 2) (cell 1 (Resource page) nil (cell 2 nil nil []))) (Cell ∷ Cell ∷ Cell ∷ [])
    "<h:d> <v:k> ( ( <h:d> ) () ) .\n"
    -- rdf:nil as a subject is an IRI like others; a node of which nothing is said is empty
    ∷ row common (spo (Iri (rdf ++ codes "nil")) likes (blank 0) ∷ spo page knows nil ∷ []) (Inside ∷ [])
    "@prefix rdf: <http://www.w3.org/1999/02/22-rdf-syntax-ns#> .\n\nrdf:nil <v:l> [] .\n<h:d> <v:k> () .\n"
    -- lists in nodes, nodes in lists, types, and several objects
    ∷ row ((codes "v", codes "v:") ∷ [])
    (spo page knows (blank 0)
    ∷ spo (Blank 0) rdf_type (iri (codes "v:T"))
    ∷ spo (Blank 0) likes (blank 1)
    ∷ spo (Blank 0) rdf_type (blank 2)
    ∷ cell 1 (blank 3) (blank 4) (cell 4 (plain (codes "x")) nil (spo (Blank 3) knows (Resource page) ∷ spo (Blank 3) knows nil ∷ [])))
    (Inside ∷ Cell ∷ Inside ∷ Inside ∷ Cell ∷ []) "@prefix v: <v:> .\n\n<h:d> v:k [ a v:T , [] ; v:l ( [ v:k <h:d> , () ] \"x\" ) ] .\n"
    ∷ row common [] [] ""
    ∷ []

-- law: each has its text
abbrev pub RowsHold : Type 0
RowsHold = wrong turtle_of flat_rows ≡ []

-- law: each has its nested text
abbrev pub NestedRowsHold : Type 0
NestedRowsHold = wrong nested_of nested_rows ≡ []
