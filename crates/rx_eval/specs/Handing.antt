-- What an element begins and hands on.
use Rattle.std.specs.Prelude.{ℕ, [], ◌∷◌, ◌++◌, Option, Some, None, nat_eq, if◌then◌else◌}
use Rattle.rx_terms.specs.declared.triples.Node.{Node}
use Rattle.rx_model.specs.Common.{same_node, node_seen}
use Rattle.rx_lists.specs.Owners.{Owners, owned}
use Rattle.rx_lists.specs.declared.lists.Owner.{Owner}

-- a new owner, where the subject isn't the other node
abbrev pub owner_added : Node → Node → Owners → Owners
owner_added subject other owners = if same_node nat_eq (node_seen subject) (node_seen other) then owners else owners ++ Some (owned subject []) ∷ []

abbrev pub owner_numbered : ℕ → Owner
owner_numbered n = record { 0 = n }

abbrev pub begun_number : Node → Node → ℕ → Option Owner
begun_number subject other number = if same_node nat_eq (node_seen subject) (node_seen other) then None else Some (owner_numbered number)
