-- The owners of lists, as the rules see them.
use Rattle.std.specs.Prelude.{ℕ, suc, List, [], ◌∷◌, map, length, Option, Some, None, option_map, option_and_then, slice_get, slice_set, slice_index_or, filter_map, bytes_eq, if◌then◌else◌}
use Rattle.rx_rdfa.specs.Common.{Chars, Node, Term, Triple, node_seen, term_seen, ListEntry}
use Rattle.rx_rdfa.specs.Tables.{PredicateTable, put}
use Rattle.rx_lists.specs.Cells.{cells_of}
use Rattle.rx_lists.specs.declared.lists.SlotId.{SlotId}
use Rattle.rx_lists.specs.Owners.{Owned, Owners, Slots, itself}

-- the subject of the lists, and the lists; an item without a term waits for its text
pub record Owning : Type 0 where
  pub subject : Node ℕ
  pub lists : PredicateTable (Option (Term ℕ))

abbrev pub owning : Node ℕ → PredicateTable (Option (Term ℕ)) → Owning
owning subject lists = record { subject = subject; lists = lists }

abbrev pub slots_seen : Slots → PredicateTable (Option (Term ℕ))
slots_seen lists = map (λ row. (row.0, map (option_map term_seen) row.1)) lists

abbrev pub owning_seen : Owned → Owning
owning_seen owned = owning (node_seen owned.subject) (slots_seen owned.lists)

abbrev pub owners_seen : Owners → List (Option Owning)
owners_seen owners = map (option_map owning_seen) owners

-- an item or a touch more in an owner's list of a predicate
abbrev pub put_at : ℕ → Chars → Option (Option (Term ℕ)) → List (Option Owning) → List (Option Owning)
put_at number predicate item owners =
    slice_set owners number (option_map (λ o. owning o.subject (put predicate item o.lists)) (option_and_then itself (slice_get owners number)))

abbrev pub put_entries : List (ListEntry ℕ (Option (Term ℕ))) → List (Option Owning) → List (Option Owning)
put_entries [] owners = owners
put_entries (e ∷ entries) owners = put_entries entries (put_at e.owner e.predicate e.item owners)

-- an item in the place of a list's
abbrev pub with_item : ℕ → ℕ → Term ℕ → PredicateTable (Option (Term ℕ)) → PredicateTable (Option (Term ℕ))
with_item list place term lists =
    slice_set lists list ((slice_index_or lists list ([], [])).0, slice_set (slice_index_or lists list ([], [])).1 place (Some term))

abbrev pub open_seen : List (Option Owning) → ℕ → Option Owning
open_seen owners number = option_and_then itself (slice_get owners number)

-- the lists of an owner, none where there is none
abbrev pub lists_in : Option Owning → PredicateTable (Option (Term ℕ))
lists_in None = []
lists_in (Some o) = o.lists

-- the place of a predicate's list among those of a table, behind the last where it has none
abbrev pub list_place : {T : Type 0} → Chars → PredicateTable T → ℕ
list_place predicate [] = 0
list_place predicate (row ∷ more) = if bytes_eq row.0 predicate then 0 else suc (list_place predicate more)

-- how many items a predicate's list has
abbrev pub item_count : {T : Type 0} → Chars → PredicateTable T → ℕ
item_count predicate [] = 0
item_count predicate (row ∷ more) = if bytes_eq row.0 predicate then length row.1 else item_count predicate more

-- the place that the next item of an owner's list takes
abbrev pub next_slot : ℕ → Chars → List (Option Owning) → SlotId
next_slot number predicate owners =
    record {
      owner = record { 0 = number };
      list = list_place predicate (lists_in (open_seen owners number));
      place = item_count predicate (lists_in (open_seen owners number));
    }

-- the places of items of some predicates, one after another
abbrev pub places_for : ℕ → List Chars → List (Option Owning) → List SlotId
places_for number [] owners = []
places_for number (p ∷ predicates) owners = next_slot number p owners ∷ places_for number predicates (put_at number p (Some None) owners)

abbrev pub fill_seen : ℕ → ℕ → Term ℕ → List (Option Owning) → ℕ → List (Option Owning)
fill_seen list place term owners number =
    slice_set owners number (option_map (λ o. owning o.subject (with_item list place term o.lists)) (open_seen owners number))

abbrev pub fill_all : List SlotId → Term ℕ → List (Option Owning) → List (Option Owning)
fill_all [] term owners = owners
fill_all (slot ∷ slots) term owners = fill_all slots term (fill_seen slot.list slot.place term owners slot.owner.0)

-- the triples of an owner's lists; a place without an item has no cell
abbrev pub cells_seen : ℕ → Option Owning → List (Triple ℕ)
cells_seen next None = []
cells_seen next (Some o) = cells_of next o.subject (map (λ row. (row.0, filter_map itself row.1)) o.lists)

-- without the finished owners at the end
abbrev pub ended_by : Option Owning → List (Option Owning) → List (Option Owning)
ended_by None [] = []
ended_by None (o ∷ more) = None ∷ o ∷ more
ended_by (Some owning) more = Some owning ∷ more

abbrev pub trimmed_owners : List (Option Owning) → List (Option Owning)
trimmed_owners [] = []
trimmed_owners (o ∷ owners) = ended_by o (trimmed_owners owners)

abbrev pub forgotten_seen : List (Option Owning) → ℕ → List (Option Owning)
forgotten_seen owners number = trimmed_owners (slice_set owners number None)
