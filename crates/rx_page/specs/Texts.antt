-- Texts of a list of triples, of items, and of a page that is right.
use Rattle.std.specs.Prelude.{◌≡◌, ℕ, List, ◌++◌, map, encode_utf8_all, codes}
use Rattle.rx_rdfa.specs.Common.{Chars, Triple, Context, Tree}
use Rattle.rx_nquads.specs.Quads.{proper_triple}
use Rattle.rx_shapes.specs.declared.shapes.Shape.{Shape}
use Rattle.rx_shapes.specs.Shapes.{HaveShapes}
use Rattle.rx_notation.specs.Nesting.{nested}
use Rattle.rx_jsonld.specs.Value.{jsonld}
use Rattle.rx_jsonld.specs.Meaning.{JsonLd}
use Rattle.rx_microdata.specs.Json.{Given, outcome}
use Rattle.rx_microdata.specs.Visits.{standard_bounds}
use Rattle.serde_json.specs.Data.{Data}
use Rattle.serde_json.specs.Written.{compact_text}

-- the text is that in which the triples' blank nodes are written where they are used, as far as their shapes allow
pub record IsNestedText (context : Context) (list : List (Triple ℕ)) (text : List ℕ) : Type 0 where
  pub shapes : ℕ → Shape
  pub have : HaveShapes list shapes
  pub spelled : text ≡ encode_utf8_all (nested context.prefixes list shapes)

-- the text is the compact JSON of the triples' JSON-LD, in which lists stand as far as the shapes allow, with LF
pub record IsJsonldText (list : List (Triple ℕ)) (text : List ℕ) : Type 0 where
  pub shapes : ℕ → Shape
  pub have : HaveShapes list shapes
  pub spelled : text ≡ compact_text (jsonld list shapes) ++ codes "\n"

-- the triples as they are read: a literal that is typed xsd:string is the plain one
abbrev pub as_read : List (Triple ℕ) → List (Triple ℕ)
as_read list = map proper_triple list

-- the text is the compact JSON of a value that denotes exactly the triples, with LF
pub record JsonDenotes (text : List ℕ) (triples : List (Triple ℕ)) : Type 0 where
  pub value : Data
  pub spelled : text ≡ compact_text value ++ codes "\n"
  pub denotes : JsonLd value triples

-- the text of a page that is right
abbrev pub ok_line : List ℕ
ok_line = codes "ok\n"

-- the text is the compact JSON of the items of a tree that was read from an address, with LF
pub record JsonText (address : Chars) (tree : Tree) (text : List ℕ) : Type 0 where
  pub value : Data
  pub given : outcome standard_bounds address tree ≡ Given value
  pub spelled : text ≡ compact_text value ++ codes "\n"
