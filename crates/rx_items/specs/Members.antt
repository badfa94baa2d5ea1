-- The places of the rows with a name, by the item around and then in tree order.
use Rattle.std.specs.Prelude.{◌≡◌, ◌<◌, ◌≤◌, ◌↔◌, ◌⊎◌, ◌&&◌, true, false, nat_lt, length, ℕ, suc, ◌+◌, ◌*◌, List, slice_get, Contains, Option, Some, None, if◌then◌else◌}
use Rattle.rx_terms.specs.Common.{AllWithin, IsNonDecreasingBy, IsPartitionPoint, Chars}
use Rattle.rx_microdata.specs.Elements.{Placed}
use Rattle.rx_items.specs.Showing.{ShowsRows}
use Rattle.rx_items.specs.Lying.{Lies}
use Rattle.rx_items.specs.declared.kept.Run.{Run}
use Rattle.rx_items.specs.declared.rows.Row.{Row}

abbrev pub scope_number : Option ℕ → ℕ
scope_number None = 0
scope_number (Some place) = place + 1

-- the number by which members stand in order; places are below the factor
abbrev pub member_key : Option ℕ → ℕ → ℕ
member_key scope place = scope_number scope * 18446744073709551615 + place

abbrev pub scope_of : Option Row → Option ℕ
scope_of None = None
scope_of (Some row) = row.scope

-- that of the row at a place
abbrev pub row_key : List Row → ℕ → ℕ
row_key rows place = member_key (scope_of (slice_get rows place)) place

-- a row with a name stands at a place
pub record IsNamed (rows : List Row) (place : ℕ) : Type 0 where
  pub row : Row
  pub is : slice_get rows place ≡ Some row
  pub named : row.head.named ≡ true

-- the members are the places of the rows with a name
abbrev pub AreMembers : List Row → List ℕ → Type 0
AreMembers rows members = (place : ℕ) → Contains members place ↔ IsNamed rows place

-- they stand in order
abbrev pub Rises : List Row → List ℕ → Type 0
Rises rows members = IsNonDecreasingBy (row_key rows) members

-- the place behind a row and, where it is an item, behind all that is inside it
abbrev pub next_place : Row → ℕ → ℕ
next_place row place = if row.head.is_item && nat_lt place row.past then row.past else place + 1

abbrev pub AllBelow : List Row → List ℕ → ℕ → Type 0
AllBelow rows members bound = (place : ℕ) → Contains members place → row_key rows place < bound

-- members are added: those from one place to another of which this is the nearest item around, all below the last place
pub record AddsMembers (rows : List Row) (scope : Option ℕ) (from to last : ℕ) (old new : List ℕ) : Type 0 where
  pub kept : (place : ℕ) → Contains old place → Contains new place
  pub only : (place : ℕ) → Contains new place → Contains old place ⊎ IsNamed rows place
  pub all : Lies rows → scope_number scope ≤ from
      → (place : ℕ) (row : Row) → from ≤ place → place < to → slice_get rows place ≡ Some row → row.head.named ≡ true → row.scope ≡ scope → Contains new place
  pub rises : Rises rows old → AllBelow rows old (member_key scope from) → Rises rows new × AllBelow rows new (member_key scope last)

-- so are those inside the row at a place, where it is an item
pub record AddsItem (rows : List Row) (item : ℕ) (old new : List ℕ) : Type 0 where
  pub kept : (place : ℕ) → Contains old place → Contains new place
  pub only : (place : ℕ) → Contains new place → Contains old place ⊎ IsNamed rows place
  pub all : Lies rows → (place : ℕ) (row : Row) → slice_get rows place ≡ Some row → row.head.named ≡ true → row.scope ≡ Some item → Contains new place
  pub rises : Rises rows old → AllBelow rows old (member_key (Some item) 0) → Rises rows new × AllBelow rows new (member_key (Some (suc item)) 0)

-- the first members, so many, are below a bound
abbrev pub FirstBelow : List Row → List ℕ → ℕ → ℕ → Type 0
FirstBelow rows members bound count = (count ≤ length members) × AllWithin (λ place. nat_lt (row_key rows place) bound ≡ true) members 0 count

-- so many members are below a bound, and stand first
abbrev pub AreBelow : List Row → List ℕ → ℕ → ℕ → Type 0
AreBelow rows members bound count =
    IsPartitionPoint (λ place. nat_lt (row_key rows place) bound ≡ true) (λ place. nat_lt (row_key rows place) bound ≡ false) members count

-- a run from one place to another
pub record RunOf (rows : List Row) (members : List ℕ) (scope : Option ℕ) (from to : ℕ) (run : Run) : Type 0 where
  pub begins : AreBelow rows members (member_key scope from) run.from
  pub ends : AreBelow rows members (member_key scope to) run.to
  pub from_small : from ≤ 18446744073709551615
  pub to_small : to ≤ 18446744073709551615

-- the members of a page's rows
pub record Sorted (words gathered : Chars) (times : List Chars) (rows : List Row) (ps : List Placed) (members : List ℕ) : Type 0 where
  pub shows : ShowsRows words gathered times rows ps
  pub same : AreMembers rows members
  pub small : length ps ≤ 18446744073709551615
