-- What holds of the nested text.
use Rattle.std.specs.Prelude.{◌≡◌, ℕ, List, map, nat_eq}
use Rattle.rx_model.specs.Common.{distinct, Triple, same_triple}
use Rattle.rx_shapes.specs.declared.shapes.Shape.{Shape}
use Rattle.rx_shapes.specs.Shapes.{HaveShapes}
use Rattle.rx_notation.specs.Short.{Prefixes}
use Rattle.rx_notation.specs.Meaning.{NestedTurtle}
use Rattle.rx_notation.specs.Laws.{IsContext}
use Rattle.rx_pieces.specs.Writable.{IsWritable}
use Rattle.rx_nquads.specs.Quads.{proper_triple}
use Rattle.rx_notation.specs.Nesting.{nested}

-- law: the nested text of a list in which each triple stands once denotes the list's set, up to the names of blank nodes,
-- its triples as they are read
abbrev pub NestedDenotes : Type 0
NestedDenotes = (context : Prefixes) (list : List (Triple ℕ)) (shapes : ℕ → Shape) → IsContext context → IsWritable list
    → distinct (same_triple nat_eq) list ≡ list → HaveShapes list shapes → NestedTurtle (nested context list shapes) (map proper_triple list)
