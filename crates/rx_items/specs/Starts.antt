-- Where the search for an item's properties begins.
use Rattle.std.specs.Prelude.{◌≡◌, ℕ, ◌+◌, true, List, Some, slice_get, Contains, ◌↔◌, ◌⊎◌, if◌then◌else◌}
use Rattle.rx_grammar.specs.Common.{Chars, Tree}
use Rattle.rx_microdata.specs.Elements.{Placed, names_of}
use Rattle.rx_microdata.specs.Properties.{is_any}
use Rattle.rx_microdata.specs.Laws.{reaches_by_scope}
use Rattle.rx_items.specs.Rows.{rows_of}
use Rattle.rx_items.specs.declared.rows.Row.{Row}
use Rattle.rx_items.specs.Members.{Rises, Sorted}
use Rattle.rx_items.specs.Properties.{in_runs}
use Rattle.rx_items.specs.declared.kept.Run.{Run}

-- the place behind what a start reaches
abbrev pub reach_end : Row → ℕ → ℕ
reach_end row place = if row.head.is_item then place + 1 else row.past

-- a row with a name that a start reaches
pub record ReachesRow (ps : List Placed) (start : Placed) (x : ℕ) : Type 0 where
  pub row : Placed
  pub is : slice_get ps x ≡ Some row
  pub named : is_any (names_of row) ≡ true
  pub reaches : reaches_by_scope row start ≡ true

-- a row with a name of which the item at a place is the nearest one around
pub record FromChildren (ps : List Placed) (place x : ℕ) : Type 0 where
  pub row : Placed
  pub is : slice_get ps x ≡ Some row
  pub named : is_any (names_of row) ≡ true
  pub scope_is : row.scope ≡ Some place

-- a row with a name that one of these starts reaches
pub record FromStart (ps : List Placed) (starts : List ℕ) (x : ℕ) : Type 0 where
  pub place : ℕ
  pub start : Placed
  pub among : Contains starts place
  pub there : slice_get ps place ≡ Some start
  pub reached : ReachesRow ps start x

abbrev pub RunsReach : List Placed → ℕ → List ℕ → ℕ → Type 0
RunsReach ps place starts x = FromChildren ps place x ⊎ FromStart ps starts x

-- these runs of the members of a page are what the item at a place reaches, with these starts
abbrev pub HaveReached : Tree → List ℕ → ℕ → List ℕ → List Run → Type 0
HaveReached tree members place starts runs = (x : ℕ) → Contains (in_runs members runs) x ↔ RunsReach (rows_of tree) place starts x

-- what is so of each page that these rows show, of which these are the members
abbrev pub OfSorted : List Row → List ℕ → (Tree → Type 0) → Type 0
OfSorted rows members Holds =
    (words gathered : Chars) (times : List Chars) (tree : Tree)
    → Sorted words gathered times rows (rows_of tree) members → Rises rows members → Holds tree
