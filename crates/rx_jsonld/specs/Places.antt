-- What the code works out by the places of triples in a list.
use Rattle.std.specs.Prelude.{◌≡◌, ℕ, nat_eq, Bool, false, not, ◌&&◌, List, [], ◌∷◌, slice_get, Option, Some, None, if◌then◌else◌}
use Rattle.serde_json.specs.Data.{Data, Members}
use Rattle.rx_model.specs.Common.{with_one, Node, Blank, Triple, same_node}
use Rattle.rx_shapes.specs.Places.{places_of}
use Rattle.rx_shapes.specs.Table.{ShapeTable, places_in}
use Rattle.rx_shapes.specs.declared.shapes.Shape.{Shape}
use Rattle.rx_jsonld.specs.Lists.{is_listed}
use Rattle.rx_jsonld.specs.Value.{with_said, node_value}

-- the nodes, and the blank nodes of these numbers that aren't there yet
abbrev pub nodes_added : List (Node ℕ) → List ℕ → List (Node ℕ)
nodes_added nodes [] = nodes
nodes_added nodes (b ∷ more) = nodes_added (with_one (same_node nat_eq) nodes (Blank b)) more

-- the place is the first one
abbrev pub starts_with_place : List ℕ → ℕ → Bool
starts_with_place [] place = false
starts_with_place (first ∷ more) place = nat_eq first place

module _ (list : List (Triple ℕ)) (shapes : ℕ → Shape) where
  -- the members with what the triples at these places say
  abbrev pub with_found : Option (Triple ℕ) → Members → Members
  with_found (Some t) members = with_said list shapes t members
  with_found None members = members

  abbrev pub with_place : ℕ → Members → Members
  with_place place members = with_found (slice_get list place) members

  abbrev pub with_places : List ℕ → Members → Members
  with_places [] members = members
  with_places (place ∷ more) members = with_places more (with_place place members)

  -- the node object that a triple at a place begins, where it is the first of its subject
  abbrev pub node_at : ℕ → Node ℕ → List Data
  node_at place subject =
      if starts_with_place (places_of nat_eq list subject) place && not (is_listed shapes list subject) then node_value list shapes subject ∷ []
      else []

-- the table has of every node the places of its triples
abbrev pub PlacesAre : List (Triple ℕ) → ShapeTable → Type 0
PlacesAre list table = (node : Node ℕ) → places_in table node ≡ places_of nat_eq list node
