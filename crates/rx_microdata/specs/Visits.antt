-- The visits to items in order of expansion, and the first that is faulty: HTML, 5.4.1, with limits of our own.
use Rattle.std.specs.Prelude.{ℕ, zero, suc, Bool, true, false, ◌==◌, nat_lt, nat_le, List, [], ◌∷◌, map, filter, flat_map, length, Contains, IsTrue, IsFalse, Option, Some, None, option_map, if◌then◌else◌}
use Rattle.rx_rdfa.specs.Common.{list_any, option_or, Kind, Cycle, ItemsTooNested, ItemsTooMany}
use Rattle.rx_microdata.specs.Elements.{Placed, is_item, names_of, is_top_level}
use Rattle.rx_microdata.specs.Properties.{properties}

-- a visited item and the items on the path to it, the nearest first
abbrev pub Visit : Type 0
Visit = List Placed

-- how many items may stand on a path, and how many visits there may be
pub record Bounds : Type 0 where
  pub nested : ℕ
  pub visits : ℕ

abbrev pub standard_bounds : Bounds
standard_bounds = record { nested = 40; visits = 100000 }

-- own rule, where HTML writes "ERROR": the last item of the visit stands in it before
abbrev pub is_cycle : Visit → Bool
is_cycle [] = false
is_cycle (last ∷ above) = list_any (λ e. e.place == last.place) above

-- The items that are values of an item's properties, once for each name: a rule of our own, where HTML, 5.4.1, takes each
-- element once
abbrev pub items_in : List Placed → List Placed
items_in properties = flat_map (λ e. map (λ name. e) (names_of e)) (filter is_item properties)

-- HTML, 5.4.1: which visits are made: to each top-level item, and from each that is no cycle to the items in its last one
pub data IsVisit (page : List Placed) : Visit → Type 0 where
  top : (root : Placed) → Contains page root → IsTrue (is_top_level root) → IsVisit page (root ∷ [])
  next : (e root : Placed) (above : Visit)
      → IsVisit page (root ∷ above) → IsFalse (is_cycle (root ∷ above)) → Contains (items_in (properties page root)) e → IsVisit page (e ∷ root ∷ above)

-- the visits that begin with an item below `above`, in order of expansion, where `left` more items may nest and these are
-- the properties of each item
abbrev pub visits_from : (Placed → List Placed) → ℕ → Visit → Placed → List Visit
visits_from properties zero above root = []
visits_from properties (suc left) above root =
    (root ∷ above) ∷ elim (is_cycle (root ∷ above)) as (λ cycle. List Visit) [
      | true ↦ []
      | false ↦ flat_map (visits_from properties left (root ∷ above)) (items_in (properties root))
    ]

-- the visits from these items; the last on a path may be the one that is too deep
abbrev pub visits_by : (Placed → List Placed) → Bounds → List Placed → List Visit
visits_by properties bounds items = flat_map (visits_from properties (suc bounds.nested) []) items

-- all visits of a page
abbrev pub visits_to : List Placed → Bounds → List Visit
visits_to page bounds = visits_by (properties page) bounds (filter is_top_level page)

-- own rule: what is wrong with a visit before which so many stand
abbrev pub fault_of : Bounds → ℕ → Visit → Option Kind
fault_of bounds before visit =
    if is_cycle visit then Some Cycle
    else if nat_lt bounds.nested (length visit) then Some ItemsTooNested
    else if nat_le bounds.visits before then Some ItemsTooMany
    else None

-- own rule: the first fault, and the visit that has it
abbrev pub first_fault : Bounds → ℕ → List Visit → Option (Kind × Visit)
first_fault bounds before [] = None
first_fault bounds before (visit ∷ more) =
    option_or (option_map (λ fault. (fault, visit)) (fault_of bounds before visit)) (first_fault bounds (suc before) more)
