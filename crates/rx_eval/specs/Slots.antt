-- The slots of all lists while a page is read, by numbers: what the open owners' tables are, and how places in them are
-- filled.
use Rattle.std.specs.Prelude.{◌≡◌, ◌<◌, ◌||◌, ℕ, zero, suc, Bool, false, List, [], ◌∷◌, map, length, Option, Some, None, option_map, bytes_eq, if◌then◌else◌}
use Rattle.rx_rdfa.specs.Common.{Node, Term, Path, Owner, same_owner, ListEntry, map_entry, of_owner, Slot, Full, Waiting, fill}
use Rattle.rx_rdfa.specs.Tables.{PredicateTable, table_from}
use Rattle.rx_lists.specs.declared.lists.SlotId.{SlotId}
use Rattle.rx_eval.specs.OwnersSeen.{Owning, owning, fill_all}

-- the slots of all lists
abbrev pub OwnedSlots : Type 0
OwnedSlots = List (ListEntry Owner (Slot ℕ))

-- the owners whose lists are open, each with the subject of its lists, from the page's on
abbrev pub OpenOwners : Type 0
OpenOwners = List (Owner × Node ℕ)

-- an owner's number is its place among those that are open
abbrev pub owner_place : OpenOwners → Owner → Option ℕ
owner_place [] owner = None
owner_place (one ∷ open_owners) owner = if same_owner one.0 owner then Some 0 else option_map suc (owner_place open_owners owner)

-- an item as the tables have it: one that waits for text is empty
abbrev pub slot_term : {B : Type 0} → Slot B → Option (Term B)
slot_term (Full term) = Some term
slot_term (Waiting path) = None

abbrev pub table_in : OwnedSlots → Owner → PredicateTable (Option (Term ℕ))
table_in slots owner = table_from [] (map (map_entry slot_term) (of_owner same_owner owner slots))

-- the owners with their tables
abbrev pub owners_of : OwnedSlots → OpenOwners → List (Option Owning)
owners_of slots [] = []
owners_of slots (one ∷ open_owners) = Some (owning one.1 (table_in slots one.0)) ∷ owners_of slots open_owners

-- what holds of each entry's owner and item
abbrev pub AllItems : {O T : Type 0} → (O → Option T → Type 0) → List (ListEntry O T) → Type 0
AllItems P [] = Unit {0}
AllItems P (e ∷ list) = P e.owner e.item × AllItems P list

-- what holds of the path for whose text a slot waits
abbrev pub ItemWaits : {B : Type 0} → (Path → Type 0) → Option (Slot B) → Type 0
ItemWaits P (Some (Waiting r)) = P r
ItemWaits P _ = Unit {0}

abbrev pub AllWait : {B O : Type 0} → (O → Path → Type 0) → List (ListEntry O (Slot B)) → Type 0
AllWait P slots = AllItems (λ owner. ItemWaits (P owner)) slots

abbrev pub slot_waits : {B : Type 0} → Path → Option (Slot B) → Bool
slot_waits path None = false
slot_waits path (Some (Full term)) = false
slot_waits path (Some (Waiting r)) = bytes_eq r path

-- some slot waits for the text of the element at the path
abbrev pub is_awaited : {B O : Type 0} → Path → List (ListEntry O (Slot B)) → Bool
is_awaited path [] = false
is_awaited path (e ∷ slots) = slot_waits path e.item || is_awaited path slots

-- the owner, where it is there, has an item at the place
abbrev pub HasItem : ℕ → ℕ → PredicateTable (Option (Term ℕ)) → Type 0
HasItem list place [] = ⊥
HasItem zero place (row ∷ table) = place < length row.1
HasItem (suc list) place (row ∷ table) = HasItem list place table

abbrev pub HasPlace : ℕ → ℕ → ℕ → List (Option Owning) → Type 0
HasPlace owner list place [] = Unit {0}
HasPlace zero list place (None ∷ owners) = Unit {0}
HasPlace zero list place (Some o ∷ owners) = HasItem list place o.lists
HasPlace (suc owner) list place (o ∷ owners) = HasPlace owner list place owners

abbrev pub HasPlaces : List SlotId → List (Option Owning) → Type 0
HasPlaces [] owners = Unit {0}
HasPlaces (slot ∷ slots) owners = HasPlace slot.owner.0 slot.list slot.place owners × HasPlaces slots owners

-- an open element that has text waiting: its path, and the places for it, none where it doesn't gather its text
pub record Waiter : Type 0 where
  pub path : Path
  pub places : Option (List SlotId)

-- at the end of an element its places take the value of its text; where it has none, no slot waits for it
abbrev pub FillsAtEnd : Path → Option (List SlotId) → (List (Option Owning) → OwnedSlots → Type 0) → List (Option Owning) → OwnedSlots → Type 0
FillsAtEnd path None Then owners slots = (is_awaited path slots ≡ false) × Then owners slots
FillsAtEnd path (Some places) Then owners slots =
    HasPlaces places owners × ((value : Term ℕ) → Then (fill_all places value owners) (fill path value slots))

-- the owners have their tables, and will have them when the elements have ended one after another, the first one first
abbrev pub FillUp : OpenOwners → List Waiter → List (Option Owning) → OwnedSlots → Type 0
FillUp open_owners [] owners slots = owners ≡ owners_of slots open_owners
FillUp open_owners (w ∷ waiters) owners slots =
    (owners ≡ owners_of slots open_owners) × FillsAtEnd w.path w.places (λ o s. FillUp open_owners waiters o s) owners slots

-- no owner is there twice
abbrev pub OwnersDiffer : OpenOwners → Type 0
OwnersDiffer [] = Unit {0}
OwnersDiffer (one ∷ open_owners) = (owner_place open_owners one.0 ≡ None) × OwnersDiffer open_owners

-- the places are those of the first owners, so many
abbrev pub WithinPlaces : ℕ → List SlotId → Type 0
WithinPlaces count [] = Unit {0}
WithinPlaces count (slot ∷ slots) = (slot.owner.0 < count) × WithinPlaces count slots

abbrev pub WithinOption : ℕ → Option (List SlotId) → Type 0
WithinOption count None = Unit {0}
WithinOption count (Some places) = WithinPlaces count places

abbrev pub Within : ℕ → List Waiter → Type 0
Within count [] = Unit {0}
Within count (w ∷ waiters) = WithinOption count w.places × Within count waiters
