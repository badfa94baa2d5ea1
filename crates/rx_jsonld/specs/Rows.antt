-- Worked examples of the JSON-LD of a list of triples: triples, the shapes of their blank nodes, and the compact text of the value.
use Rattle.std.specs.Prelude.{◌≡◌, ℕ, List, [], ◌∷◌, codes, bytes_eq, get_or, if◌then◌else◌}
use Rattle.serde_json.specs.Written.{compact_text}
use Rattle.rx_terms.specs.Common.{String}
use Rattle.rx_model.specs.Common.{Chars, Plain, Tagged, Typed, Node, Iri, Blank, Term, Resource, Literal, Triple, spo, rdf_type, rdf_first, rdf_rest, rdf_nil}
use Rattle.rx_shapes.specs.declared.shapes.Shape.{Shape}
use Rattle.rx_shapes.specs.declared.shapes.Shape.TheVariants.{Labelled, Inside, Cell}
use Rattle.rx_jsonld.specs.Value.{jsonld}

-- triples, the shapes of the blank nodes 0, 1, 2 and so on, and the text
pub record Row : Type 0 where
  pub list : List (Triple ℕ)
  pub shapes : List Shape
  pub text : String

abbrev pub row : List (Triple ℕ) → List Shape → String → Row
row list shapes text = record { list = list; shapes = shapes; text = text }

-- the texts of the rows that have another
abbrev pub wrong : List Row → List String
wrong [] = []
wrong (r ∷ rows) =
    if bytes_eq (compact_text (jsonld r.list (λ number. get_or r.shapes number Labelled))) (codes r.text) then wrong rows else r.text ∷ wrong rows

abbrev pub page : Node ℕ
page = Iri (codes "h:d#a")

abbrev pub iri : Chars → Term ℕ
iri text = Resource (Iri text)

abbrev pub blank : ℕ → Term ℕ
blank number = Resource (Blank number)

abbrev pub plain : Chars → Term ℕ
plain text = Literal text Plain

-- a list's cell
abbrev pub cell : ℕ → Term ℕ → Term ℕ → List (Triple ℕ) → List (Triple ℕ)
cell number item after more = spo (Blank number) rdf_first item ∷ spo (Blank number) rdf_rest after ∷ more

abbrev pub nil : Term ℕ
nil = iri rdf_nil

abbrev pub p : Chars
p = codes "v:p"

abbrev pub q : Chars
q = codes "v:q"

abbrev pub rows : List Row
rows =
    row [] [] "[]"
    ∷ row (spo page q (blank 0) ∷ cell 0 (plain (codes "abc")) (blank 1) (cell 1 (plain (codes "c")) nil [])) (Cell ∷ Cell ∷ [])
    "[{\"@id\":\"h:d#a\",\"v:q\":[{\"@list\":[{\"@value\":\"abc\"},{\"@value\":\"c\"}]}]}]"
    ∷ row (spo page p nil ∷ []) [] "[{\"@id\":\"h:d#a\",\"v:p\":[{\"@list\":[]}]}]"
    -- a language, none, a datatype, and xsd:string, which stays as it is in the graph; keys in byte order
    ∷ row (spo page (codes "v:s") (Literal (codes "z") (Typed (codes "http://www.w3.org/2001/XMLSchema#string")))
    ∷ spo page q (plain (codes "y"))
    ∷ spo page (codes "v:r") (Literal (codes "7") (Typed (codes "http://www.w3.org/2001/XMLSchema#int")))
    ∷ spo page p (Literal (codes "x") (Tagged (codes "de")))
    ∷ []) []
    "[{\"@id\":\"h:d#a\",\"v:p\":[{\"@language\":\"de\",\"@value\":\"x\"}],\"v:q\":[{\"@value\":\"y\"}],\"v:r\":[{\"@type\":\"http://www.w3.org/2001/XMLSchema#int\",\"@value\":\"7\"}],\"v:s\":[{\"@type\":\"http://www.w3.org/2001/XMLSchema#string\",\"@value\":\"z\"}]}]"
    ∷ row (spo (Blank 0) p (plain (codes "x")) ∷ spo (Blank 1) rdf_type (iri (codes "v:T")) ∷ []) []
    "[{\"@id\":\"_:b0\",\"v:p\":[{\"@value\":\"x\"}]},{\"@id\":\"_:b1\",\"@type\":[\"v:T\"]}]"
    -- a list as a type is written cell by cell
    ∷ row (spo page rdf_type (blank 0) ∷ cell 0 (iri (codes "h:d#x")) nil []) (Cell ∷ [])
    "[{\"@id\":\"h:d#a\",\"@type\":[\"_:b0\"]},{\"@id\":\"_:b0\",\"http://www.w3.org/1999/02/22-rdf-syntax-ns#first\":[{\"@id\":\"h:d#x\"}],\"http://www.w3.org/1999/02/22-rdf-syntax-ns#rest\":[{\"@id\":\"http://www.w3.org/1999/02/22-rdf-syntax-ns#nil\"}]}]"
    -- a list that is an item of another is written cell by cell, and rdf:nil as an item by its name
    ∷ row (spo page p (blank 0) ∷ cell 0 (blank 1) (blank 2) (cell 1 (Resource page) nil (cell 2 nil nil []))) (Cell ∷ Cell ∷ Cell ∷ [])
    "[{\"@id\":\"h:d#a\",\"v:p\":[{\"@list\":[{\"@id\":\"_:b1\"},{\"@id\":\"http://www.w3.org/1999/02/22-rdf-syntax-ns#nil\"}]}]},{\"@id\":\"_:b1\",\"http://www.w3.org/1999/02/22-rdf-syntax-ns#first\":[{\"@id\":\"h:d#a\"}],\"http://www.w3.org/1999/02/22-rdf-syntax-ns#rest\":[{\"@id\":\"http://www.w3.org/1999/02/22-rdf-syntax-ns#nil\"}]}]"
    -- a list that is used twice
    ∷ row (spo page p (blank 0) ∷ spo page q (blank 0) ∷ cell 0 (Resource page) nil []) (Labelled ∷ [])
    "[{\"@id\":\"h:d#a\",\"v:p\":[{\"@id\":\"_:b0\"}],\"v:q\":[{\"@id\":\"_:b0\"}]},{\"@id\":\"_:b0\",\"http://www.w3.org/1999/02/22-rdf-syntax-ns#first\":[{\"@id\":\"h:d#a\"}],\"http://www.w3.org/1999/02/22-rdf-syntax-ns#rest\":[{\"@id\":\"http://www.w3.org/1999/02/22-rdf-syntax-ns#nil\"}]}]"
    -- two lists with one end: neither is one of cells
    ∷ row (spo page p (blank 0) ∷ spo page q (blank 1) ∷ cell 0 (Resource page) (blank 1) (cell 1 (Resource page) nil [])) (Inside ∷ Labelled ∷ [])
    "[{\"@id\":\"h:d#a\",\"v:p\":[{\"@id\":\"_:b0\"}],\"v:q\":[{\"@id\":\"_:b1\"}]},{\"@id\":\"_:b0\",\"http://www.w3.org/1999/02/22-rdf-syntax-ns#first\":[{\"@id\":\"h:d#a\"}],\"http://www.w3.org/1999/02/22-rdf-syntax-ns#rest\":[{\"@id\":\"_:b1\"}]},{\"@id\":\"_:b1\",\"http://www.w3.org/1999/02/22-rdf-syntax-ns#first\":[{\"@id\":\"h:d#a\"}],\"http://www.w3.org/1999/02/22-rdf-syntax-ns#rest\":[{\"@id\":\"http://www.w3.org/1999/02/22-rdf-syntax-ns#nil\"}]}]"
    -- a list that is its own rest
    ∷ row (cell 0 (Resource page) (blank 0) []) (Labelled ∷ []) "[{\"@id\":\"_:b0\",\"http://www.w3.org/1999/02/22-rdf-syntax-ns#first\":[{\"@id\":\"h:d#a\"}],\"http://www.w3.org/1999/02/22-rdf-syntax-ns#rest\":[{\"@id\":\"_:b0\"}]}]"
    -- a chain that no cell goes on to is listed under rdf:rest too; rdf:nil isn't
    ∷ row (spo page rdf_rest (blank 0) ∷ cell 0 (plain (codes "x")) nil (spo page rdf_rest nil ∷ spo page rdf_first nil ∷ [])) (Cell ∷ [])
    "[{\"@id\":\"h:d#a\",\"http://www.w3.org/1999/02/22-rdf-syntax-ns#first\":[{\"@id\":\"http://www.w3.org/1999/02/22-rdf-syntax-ns#nil\"}],\"http://www.w3.org/1999/02/22-rdf-syntax-ns#rest\":[{\"@list\":[{\"@value\":\"x\"}]},{\"@id\":\"http://www.w3.org/1999/02/22-rdf-syntax-ns#nil\"}]}]"
    -- rdf:nil as a subject and as a type, and a literal as a type
    ∷ row (spo (Iri rdf_nil) p (Resource page) ∷ spo page rdf_type nil ∷ spo page rdf_type (plain (codes "x")) ∷ []) []
    "[{\"@id\":\"http://www.w3.org/1999/02/22-rdf-syntax-ns#nil\",\"v:p\":[{\"@id\":\"h:d#a\"}]},{\"@id\":\"h:d#a\",\"@type\":[\"http://www.w3.org/1999/02/22-rdf-syntax-ns#nil\"],\"http://www.w3.org/1999/02/22-rdf-syntax-ns#type\":[{\"@value\":\"x\"}]}]"
    -- subjects in order of first occurrence, objects of a predicate in the graph's order
    ∷ row (spo (Iri (codes "h:z")) q (plain (codes "2")) ∷ spo page p nil ∷ spo (Iri (codes "h:z")) p (blank 0) ∷ spo (Iri (codes "h:z")) q (plain (codes "1")) ∷ []) (Inside ∷ [])
    "[{\"@id\":\"h:z\",\"v:p\":[{\"@id\":\"_:b0\"}],\"v:q\":[{\"@value\":\"2\"},{\"@value\":\"1\"}]},{\"@id\":\"h:d#a\",\"v:p\":[{\"@list\":[]}]}]"
    ∷ []

-- law: each has its text
abbrev pub RowsHold : Type 0
RowsHold = wrong rows ≡ []
