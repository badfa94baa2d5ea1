-- Where the triples of a node stand in a list.
use Rattle.std.specs.Prelude.{ℕ, Bool, List, [], ◌∷◌, ◌++◌, slice_get, option_to_list}
use Rattle.rx_model.specs.Terms.{Node, Triple, same_node}
use Rattle.rx_shapes.specs.Rows.{positions}

-- the positions of the triples with that subject, from 0, in order
abbrev pub places_of : {B : Type 0} → (B → B → Bool) → List (Triple B) → Node B → List ℕ
places_of {B} same list node = positions (λ (t : Triple B). same_node same node t.subject) 0 list

-- the triples at these places
abbrev pub picked : List (Triple ℕ) → List ℕ → List (Triple ℕ)
picked list [] = []
picked list (place ∷ places) = option_to_list (slice_get list place) ++ picked list places
