-- What is known of a graph's nodes: shapes and places.
use Rattle.std.specs.Prelude.{◌≡◌, ℕ, List, [], Option, Some, None, get_or, nat_eq}
use Rattle.rx_model.specs.Terms.{Node, Blank, Triple, set_of}
use Rattle.rx_graph.specs.Resources.{number_in}
use Rattle.rx_shapes.specs.declared.shapes.Shape.{Shape}
use Rattle.rx_shapes.specs.declared.shapes.Shape.TheVariants as shape
use Rattle.rx_shapes.specs.Shapes.{IsShape}
use Rattle.rx_shapes.specs.Places.{places_of}

-- some nodes, and for each by its number the places of its triples, and its shape
pub record ShapeTable : Type 0 where
  pub nodes : List (Node ℕ)
  pub places : List (List ℕ)
  pub shapes : List Shape

abbrev pub shape_at : List Shape → Option ℕ → Shape
shape_at shapes (Some number) = get_or shapes number shape.Labelled
shape_at shapes None = shape.Labelled

-- the shape that a blank node has in the table; a node that isn't there is labelled
abbrev pub shape_in : ShapeTable → ℕ → Shape
shape_in table b = shape_at table.shapes (number_in table.nodes (Blank b))

abbrev pub places_at : List (List ℕ) → Option ℕ → List ℕ
places_at places (Some number) = get_or places number []
places_at places None = []

-- the places that a node has in the table
abbrev pub places_in : ShapeTable → Node ℕ → List ℕ
places_in table node = places_at table.places (number_in table.nodes node)

-- the table has of every node what the list of triples has
pub record AreShapes (list : List (Triple ℕ)) (table : ShapeTable) : Type 0 where
  pub shape : (b : ℕ) → IsShape (set_of list) b (shape_in table b)
  pub places : (node : Node ℕ) → places_in table node ≡ places_of nat_eq list node
