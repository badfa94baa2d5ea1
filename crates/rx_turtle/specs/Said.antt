-- What is said of a node.
use Rattle.std.specs.Prelude.{ℕ, List}
use Rattle.rx_model.specs.Terms.{Node, Triple}
use Rattle.rx_shapes.specs.Subjects.{about}
use Rattle.rx_turtle.specs.declared.keys.By.TheVariants as by
use Rattle.rx_turtle.specs.Groups.{Keyed, grouped}

-- a node's triples, by predicate
abbrev pub said_of : List (Triple ℕ) → Node ℕ → List Keyed
said_of list node = grouped by.Predicate (about list node)
