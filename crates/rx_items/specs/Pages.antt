-- The top-level items of a page, one after another, and what they come to.
use Rattle.std.specs.Prelude.{◌≡◌, ⊤, ℕ, true, false, List, [], ◌∷◌, map, filter, slice_get, Some, None, Vec, Result, Ok, Err}
use Rattle.std.specs.declared.alloc.Global.{Global}
use Rattle.serde_json.specs.Data.{Data}
use Rattle.serde_json.specs.View.{view}
use Rattle.serde_json.specs.Written.{compact_text}
use Rattle.serde_json.specs.declared.value.Value.{Value}
use Rattle.rx_rdfa.specs.Common.{Chars, Stop}
use Rattle.rx_grammar.specs.declared.stops.Stop.TheVariants as stop
use Rattle.rx_microdata.specs.Elements.{Placed, is_top_level}
use Rattle.rx_microdata.specs.Visits.{Visit, visits_from, visits_by, first_fault, standard_bounds}
use Rattle.rx_microdata.specs.Json.{Outcome, Given, Refused, json_by, json_of_item}
use Rattle.rx_items.specs.Rows.{properties_in}
use Rattle.rx_items.specs.Held.{HoldsRows}
use Rattle.rx_items.specs.declared.kept.Kept.{Kept}
use Rattle.rx_items.specs.Expanding.{HasFault}
use Rattle.rx_items.specs.declared.visits.Trail.{Trail}

-- what is answered is this outcome, where there is memory
abbrev pub JsonGives : Outcome → Result Value Stop → Type 0
JsonGives outcome (Ok value) = outcome ≡ Given (view value)
JsonGives outcome (Err stop.NoMemory) = ⊤
JsonGives outcome (Err (stop.Fault fault)) = outcome ≡ Refused fault

-- the outcome is a value, and the text is its compact text
pub record IsTextOf (outcome : Outcome) (text : List ℕ) : Type 0 where
  pub value : Data
  pub given : outcome ≡ Given value
  pub spelled : text ≡ compact_text value

-- what is answered is the text of this outcome, where there is memory
abbrev pub TextGives : Outcome → Result (Vec ℕ Global) Stop → Type 0
TextGives outcome (Ok text) = IsTextOf outcome text.items
TextGives outcome (Err stop.NoMemory) = ⊤
TextGives outcome (Err (stop.Fault fault)) = outcome ≡ Refused fault

-- no visit is faulty, or the first fault is told
abbrev pub VisitsGive : List Placed → Result (Unit {0}) Stop → Type 0
VisitsGive rows (Ok done) = first_fault standard_bounds 0 (visits_by (properties_in rows) standard_bounds (filter is_top_level rows)) ≡ None
VisitsGive rows (Err why) = HasFault 0 (visits_by (properties_in rows) standard_bounds (filter is_top_level rows)) why

-- what is so of the row at a place, before a visit begins
abbrev pub AtTop : Kept → Trail → ℕ → (List Placed → Chars → Placed → Type 0) → Type 0
AtTop kept trail place Holds =
    (rows : List Placed) (base : Chars) (e : Placed) → HoldsRows kept rows base → trail.path.items ≡ [] → slice_get rows place ≡ Some e
    → Holds rows base e

module _ (rows : List Placed) (base : Chars) where
  -- the visits that begin with an element, where it is a top-level item
  abbrev pub top_visits : Placed → List Visit
  top_visits e = elim (is_top_level e) as (λ top. List Visit) [ true ↦ visits_from (properties_in rows) 41 [] e | false ↦ [] ]

  abbrev pub top_data : Placed → List Data
  top_data e = elim (is_top_level e) as (λ top. List Data) [ true ↦ json_of_item (properties_in rows) base 40 e ∷ [] | false ↦ [] ]

  -- the JSON of each top-level item, and of the page
  abbrev pub tops_data : List Data
  tops_data = map (json_of_item (properties_in rows) base 40) (filter is_top_level rows)

  abbrev pub page_data : Data
  page_data = json_by (properties_in rows) base 40 (filter is_top_level rows)
