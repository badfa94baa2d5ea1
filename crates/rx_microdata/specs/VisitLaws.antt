-- What the definitions of visits come to.
use Rattle.std.specs.Prelude.{◌≡◌, ℕ, suc, ◌+◌, length, slice_get, ◌≤◌, ◌<◌, ◌↔◌, Contains, List, ◌++◌, Some, None}
use Rattle.rx_rdfa.specs.Common.{option_or, Kind, Chars}
use Rattle.rx_microdata.specs.Elements.{Placed}
use Rattle.rx_microdata.specs.Visits.{Bounds, Visit, IsVisit, fault_of, first_fault, visits_to}
use Rattle.rx_microdata.specs.Json.{json_of}

-- the list has the visits of the relation, down to the first that is too deep
abbrev pub VisitsAre : Type 0
VisitsAre = (page : List Placed) (bounds : Bounds) (visit : Visit)
    → Contains (visits_to page bounds) visit ↔ (IsVisit page visit × (length visit ≤ suc bounds.nested))

-- the visit at that place of the order is faulty, and none before it
pub record IsFirstFaulty (bounds : Bounds) (visits : List Visit) (kind : Kind) (visit : Visit) : Type 0 where
  pub before : ℕ
  pub stands : slice_get visits before ≡ Some visit
  pub is_faulty : fault_of bounds before visit ≡ Some kind
  pub others_are_not : (i : ℕ) (other : Visit) → i < before → slice_get visits i ≡ Some other → fault_of bounds i other ≡ None

abbrev pub FirstFaultsAre : Type 0
FirstFaultsAre = (bounds : Bounds) (visits : List Visit) (kind : Kind) (visit : Visit)
    → (first_fault bounds 0 visits ≡ Some (kind, visit)) ↔ IsFirstFaulty bounds visits kind visit

-- the first fault of visits in a row: that of the first part, else that of the second, whose count goes on
abbrev pub FaultsInRow : Type 0
FaultsInRow = (bounds : Bounds) (before : ℕ) (xs ys : List Visit)
    → first_fault bounds before (xs ++ ys) ≡ option_or (first_fault bounds before xs) (first_fault bounds (before + length xs) ys)

-- Where no visit is faulty the JSON is whole: more room for nesting changes nothing, so no `null` stands for an item.
abbrev pub JsonIsWhole : Type 0
JsonIsWhole = (page : List Placed) (base : Chars) (bounds : Bounds) (more : ℕ)
    → first_fault bounds 0 (visits_to page bounds) ≡ None → json_of page base bounds.nested ≡ json_of page base (bounds.nested + more)
