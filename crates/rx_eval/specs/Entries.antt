-- Entries of lists, in the code's own owners.
use Rattle.std.specs.Prelude.{ℕ, List, [], ◌∷◌, Option, Some, None}
use Rattle.rx_rdfa.specs.Common.{Chars, put}
use Rattle.rx_terms.specs.declared.triples.Term.{Term}
use Rattle.rx_lists.specs.Owners.{Owners, changed, lists_of, open_at}
use Rattle.rx_lists.specs.SlotIds.{slot_in}
use Rattle.rx_lists.specs.declared.lists.Owner.{Owner}
use Rattle.rx_lists.specs.declared.lists.SlotId.{SlotId}
use Rattle.rx_eval.specs.declared.contexts.IncompleteTriple.{IncompleteTriple}
use Rattle.rx_eval.specs.declared.contexts.IncompleteTriple.TheVariants.{Forward, Reverse, InList}

-- the owners with an item, an empty slot or a touch more in an owner's list of each predicate
abbrev pub put_each : ℕ → Option (Option Term) → List Chars → Owners → Owners
put_each owner item [] owners = owners
put_each owner item (p ∷ predicates) owners = put_each owner item predicates (changed (put p item) owners owner)

-- the places of the next slots of an owner's lists of the predicates
abbrev pub slots_for : Owner → List Chars → Owners → List SlotId
slots_for owner [] owners = []
slots_for owner (p ∷ predicates) owners =
    slot_in owner p (lists_of (open_at owners owner.0)) ∷ slots_for owner predicates (changed (put p (Some None)) owners owner.0)

-- an item for one of those that wait, if it is a list
abbrev pub awaited_by : Term → IncompleteTriple → Owners → Owners
awaited_by item (Forward predicate) owners = owners
awaited_by item (Reverse predicate) owners = owners
awaited_by item (InList owner predicate) owners = changed (put predicate (Some (Some item))) owners owner.0

abbrev pub put_awaited : Term → List IncompleteTriple → Owners → Owners
put_awaited item [] owners = owners
put_awaited item (one ∷ waiting) owners = put_awaited item waiting (awaited_by item one owners)
