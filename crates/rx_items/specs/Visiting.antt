-- What is said of the steps of a visit: whatever rows are held, and on whatever path they are reached.
use Rattle.std.specs.Prelude.{◌≡◌, ⊤, ℕ, suc, true, List, slice_get, Some, Result}
use Rattle.rx_rdfa.specs.Common.{Chars, Stop}
use Rattle.rx_microdata.specs.Elements.{Placed, is_item}
use Rattle.rx_microdata.specs.Visits.{Visit, visits_from}
use Rattle.rx_items.specs.Rows.{properties_in}
use Rattle.rx_items.specs.Held.{AllStand, IsElement, row_places}
use Rattle.rx_items.specs.declared.kept.Element.{Element}
use Rattle.rx_items.specs.declared.kept.Kept.{Kept}
use Rattle.rx_items.specs.Expanding.{GivesUnlessFault, HeldOnPath, again, steps_in, steps_of, visits_in}
use Rattle.rx_items.specs.declared.visits.Trail.{Trail}

-- what is so of the row at a place, whatever path the trail has walked
abbrev pub AtRow : Kept → Trail → ℕ → (List Placed → Chars → Visit → ℕ → Placed → Type 0) → Type 0
AtRow kept trail place Holds =
    (rows : List Placed) (base : Chars) (above : Visit) (left : ℕ) (e : Placed) → HeldOnPath kept rows base trail.path.items above left
    → slice_get rows place ≡ Some e → Holds rows base above left e

-- the same of a row that this element is
abbrev pub AtElement : Kept → Trail → ℕ → Element → (List Placed → Chars → Visit → ℕ → Placed → Type 0) → Type 0
AtElement kept trail place element Holds =
    AtRow kept trail place (λ rows base above left e. IsElement kept rows place element e → Holds rows base above left e)

-- the same of one that is an item
abbrev pub AtItem : Kept → Trail → ℕ → Element → (List Placed → Chars → Visit → ℕ → Placed → Type 0) → Type 0
AtItem kept trail place element Holds =
    AtElement kept trail place element (λ rows base above left root. is_item root ≡ true → Holds rows base above left root)

-- the same of several rows, which stand at these places
abbrev pub AtRows : Kept → Trail → List ℕ → (List Placed → Chars → Visit → ℕ → List Placed → Type 0) → Type 0
AtRows kept trail list Holds =
    (rows : List Placed) (base : Chars) (above : Visit) (left : ℕ) (es : List Placed) → HeldOnPath kept rows base trail.path.items above left
    → list ≡ row_places es → AllStand rows es → Holds rows base above left es

module _ (rows : List Placed) (base : Chars) (above : Visit) (left : ℕ) where
  -- the visits that begin with this item
  abbrev pub visits_to : Placed → List Visit
  visits_to root = visits_from (properties_in rows) (suc left) above root

  -- the visits that the properties of these rows make
  abbrev pub visits_among : List Placed → List Visit
  visits_among es = visits_in rows base above left (steps_in es)

  -- those that one row makes, once for each of its names
  abbrev pub visits_by_name : Placed → List Visit
  visits_by_name e = visits_in rows base above left (steps_of e)

  -- those that an item's properties make
  abbrev pub visits_below : Placed → List Visit
  visits_below root = visits_among (properties_in rows root)

-- the visits of an item so many times
abbrev pub visits_again : ℕ → List Placed → Chars → Visit → ℕ → Placed → List Visit
visits_again times rows base above left root = again times (visits_to rows base above left root)

-- these visits are made, or the first fault is told
abbrev pub PassesVisits : {X : Type 0} → Trail → (List Placed → Chars → Visit → ℕ → X → List Visit) → Trail → Result (Unit {0}) Stop
    → List Placed → Chars → Visit → ℕ → X → Type 0
PassesVisits old visits new result rows base above left x = GivesUnlessFault old.visits (visits rows base above left x) new.visits (λ done. ⊤) result
