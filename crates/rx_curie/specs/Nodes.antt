-- What may be a type: an IRI or an author's blank node.
use Rattle.std.specs.Prelude.{◌≡◌, Bool, true, false, List, [], ◌∷◌, Option, Some, None}
use Rattle.std.specs.List.{list_all}
use Rattle.rx_curie.specs.declared.refs.Ref.{Ref}
use Rattle.rx_curie.specs.declared.refs.Ref.TheVariants as code

abbrev pub is_node : Ref → Bool
is_node (code.Iri iri) = true
is_node (code.Label label) = true
is_node (code.Relative reference) = false

abbrev pub are_nodes : List Ref → Bool
are_nodes list = list_all is_node list

-- the list, of which the first is kept apart
abbrev pub nodes_with_first : Option Ref → List Ref → List Ref
nodes_with_first None others = []
nodes_with_first (Some first) others = first ∷ others

-- where there is no first one there are no others
abbrev pub HoldsNodes : Option Ref → List Ref → Type 0
HoldsNodes None others = others ≡ []
HoldsNodes (Some first) others = are_nodes (first ∷ others) ≡ true
