-- Triples with the shapes of their blank nodes.
use Rattle.std.specs.Prelude.{ℕ, List}
use Rattle.rx_model.specs.Terms.{Triple}
use Rattle.rx_shapes.specs.Table.{ShapeTable}

pub record Shaped : Type 0 where
  pub triples : List (Triple ℕ)
  pub table : ShapeTable
