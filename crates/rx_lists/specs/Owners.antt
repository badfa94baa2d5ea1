-- Who owns lists, and the lists: what contracts see of them.
use Rattle.std.specs.Prelude.{ℕ, suc, Bool, true, false, List, [], ◌∷◌, ◌++◌, Option, Some, None, option_and_then, option_map, bytes_eq, map, slice_get, slice_set, slice_index_or, if◌then◌else◌}
use Rattle.rx_terms.specs.Text.{Chars}
use Rattle.rx_terms.specs.declared.triples.Term.{Term}
use Rattle.rx_terms.specs.declared.triples.Node.{Node}
use Rattle.rx_rdfa.specs.Tables.{PredicateTable}

-- the lists of one owner, each with its predicate and its slots in order; a slot without a term is still empty
abbrev pub Slots : Type 0
Slots = PredicateTable (Option Term)

-- an owner: the subject of its lists, and the lists in order of first slot or touch
pub record Owned : Type 0 where
  pub subject : Node
  pub lists : Slots

abbrev pub owned : Node → Slots → Owned
owned subject lists = record { subject = subject; lists = lists }

-- the owners by their numbers; one that is finished is None, and the last one isn't finished
abbrev pub Owners : Type 0
Owners = List (Option Owned)

abbrev pub itself : {A : Type 0} → A → A
itself x = x

-- the owner of that number
abbrev pub open_at : Owners → ℕ → Option Owned
open_at owners number = option_and_then itself (slice_get owners number)

abbrev pub with_lists : (Slots → Slots) → Owned → Owned
with_lists change owned = record { subject = owned.subject; lists = change owned.lists }

-- the owners with the lists of one changed
abbrev pub changed : (Slots → Slots) → Owners → ℕ → Owners
changed change owners number = slice_set owners number (option_map (with_lists change) (open_at owners number))

abbrev pub list_predicates : Slots → List Chars
list_predicates lists = map (λ row. row.0) lists

-- the place of a predicate's list among those of its owner
abbrev pub place_of : Chars → Slots → ℕ
place_of predicate [] = 0
place_of predicate (row ∷ more) = if bytes_eq row.0 predicate then 0 else suc (place_of predicate more)

-- the slots of a predicate, none where it has no list
abbrev pub slots_of : Chars → Slots → List (Option Term)
slots_of predicate [] = []
slots_of predicate (row ∷ more) = if bytes_eq row.0 predicate then row.1 else slots_of predicate more

-- the slots of the list at a place
abbrev pub slots_at : Slots → ℕ → List (Option Term)
slots_at lists place = (slice_index_or lists place ([], [])).1

-- the lists with one more slot, still empty, in one of them
abbrev pub with_slot : ℕ → Slots → Slots
with_slot list lists = slice_set lists list ((slice_index_or lists list ([], [])).0, (slice_index_or lists list ([], [])).1 ++ None ∷ [])

-- the lists with a term in one slot
abbrev pub with_term : ℕ → ℕ → Term → Slots → Slots
with_term list place term lists =
    slice_set lists list ((slice_index_or lists list ([], [])).0, slice_set (slice_index_or lists list ([], [])).1 place (Some term))

-- the lists of the owner of that number, none where there is none
abbrev pub lists_of : Option Owned → Slots
lists_of None = []
lists_of (Some owned) = owned.lists

-- without the finished owners at the end
abbrev pub trimmed_by : Option Owned → Owners → Owners
trimmed_by None [] = []
trimmed_by None (o ∷ more) = None ∷ o ∷ more
trimmed_by (Some owned) more = Some owned ∷ more

abbrev pub trimmed_tail : Owners → Owners
trimmed_tail [] = []
trimmed_tail (o ∷ owners) = trimmed_by o (trimmed_tail owners)

-- there is one, and it is finished
abbrev pub is_finished : Option (Option Owned) → Bool
is_finished None = false
is_finished (Some None) = true
is_finished (Some (Some owned)) = false

-- the owners without the one of that number
abbrev pub forgotten : Owners → ℕ → Owners
forgotten owners number = trimmed_tail (slice_set owners number None)
