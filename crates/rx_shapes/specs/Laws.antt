-- What holds of shapes.
use Rattle.std.specs.Prelude.{List}
use Rattle.rx_model.specs.Common.{Triple, set_of, Has, Renamed}
use Rattle.rx_shapes.specs.declared.shapes.Shape.{Shape}
use Rattle.rx_shapes.specs.Shapes.{IsShape}

-- law: where the blank nodes have other names, each its own, they have the same shapes
abbrev pub ShapesForgetNames : Type 0 → Type 0 → Type 0
ShapesForgetNames A B = (list : List (Triple A)) (other : List (Triple B)) (r : Renamed (set_of list) (set_of other)) (b : A) (s : Shape)
    → Has (set_of list) b → IsShape (set_of list) b s → IsShape (set_of other) (r.to b) s
