-- The visits of an item's properties, one after another, and the JSON that they come to.
use Rattle.std.specs.Prelude.{◌≡◌, ⊤, ℕ, zero, suc, ◌+◌, true, false, ◌==◌, nat_le, List, [], ◌∷◌, ◌++◌, map, flat_map, length, Option, Some, None, Result, Ok, Err, if◌then◌else◌}
use Rattle.rx_rdfa.specs.Common.{list_any, Chars, Fault, Kind, Cycle, ItemsTooNested, ItemsTooMany, Stop}
use Rattle.serde_json.specs.Data.{Data}
use Rattle.rx_grammar.specs.declared.stops.Stop.TheVariants as stop
use Rattle.rx_microdata.specs.Facts.{said}
use Rattle.rx_microdata.specs.Elements.{Placed, is_item, names_of}
use Rattle.rx_microdata.specs.Visits.{Visit, visits_from, standard_bounds, first_fault}
use Rattle.rx_microdata.specs.Json.{json_of_item, refused, Refused}
use Rattle.rx_items.specs.Rows.{properties_in}
use Rattle.rx_items.specs.Held.{HoldsRows}
use Rattle.rx_items.specs.declared.kept.Kept.{Kept}
use Rattle.rx_items.specs.declared.kept.Element.{Element}
use Rattle.rx_items.specs.declared.kept.Tokens.{Tokens}
use Rattle.rx_items.specs.declared.kept.Tokens.TheVariants as tokens
use Rattle.rx_items.specs.declared.visits.Trail.{Trail}
use Rattle.rx_json.specs.Plain.{string_of}

-- the places of the items on a path, the outermost first
abbrev pub path_places : Visit → List ℕ
path_places [] = []
path_places (e ∷ above) = path_places above ++ e.place ∷ []

-- what is wrong with a visit to the item at this place
abbrev pub visit_fault : List ℕ → ℕ → ℕ → Option Kind
visit_fault path visits place =
    if list_any (λ (x : ℕ). x == place) path then Some Cycle
    else if nat_le 40 (length path) then Some ItemsTooNested
    else if nat_le 100000 visits then Some ItemsTooMany
    else None

-- rows that are held, on a path below which so many items may nest
pub record HeldOnPath (kept : Kept) (rows : List Placed) (base : Chars) (path : List ℕ) (above : Visit) (left : ℕ) : Type 0 where
  pub holds : HoldsRows kept rows base
  pub path_is : path ≡ path_places above
  pub deep : left + length above ≡ 40

-- a property under one of its names
pub record NamedProperty : Type 0 where
  pub element : Placed
  pub name : Chars

abbrev pub with_name : Placed → Chars → NamedProperty
with_name e name = record { element = e; name = name }

abbrev pub steps_of : Placed → List NamedProperty
steps_of e = map (with_name e) (names_of e)

abbrev pub steps_in : List Placed → List NamedProperty
steps_in es = flat_map steps_of es

-- how many tokens an attribute has
abbrev pub token_count : Tokens → ℕ
token_count (tokens.One span) = 1
token_count (tokens.Many list) = length list.now

-- the same visits so many times
abbrev pub again : ℕ → List Visit → List Visit
again zero visits = []
again (suc n) visits = visits ++ again n visits

-- the first fault of visits before which so many stand is this one
pub record FaultIs (before : ℕ) (visits : List Visit) (fault : Fault) : Type 0 where
  pub kind : Kind
  pub visit : Visit
  pub found : first_fault standard_bounds before visits ≡ Some (kind, visit)
  pub is : refused kind visit ≡ Refused fault

-- no visit is faulty, and so many stand behind them
pub record NoFault (before : ℕ) (visits : List Visit) (after : ℕ) : Type 0 where
  pub none : first_fault standard_bounds before visits ≡ None
  pub counted : after ≡ before + length visits

-- these visits have the fault that stops, or there was no memory
abbrev pub HasFault : ℕ → List Visit → Stop → Type 0
HasFault before visits stop.NoMemory = ⊤
HasFault before visits (stop.Fault fault) = FaultIs before visits fault

abbrev pub GivesUnlessFault : {X : Type 0} → ℕ → List Visit → ℕ → (X → Type 0) → Result X Stop → Type 0
GivesUnlessFault before visits after Given (Ok x) = NoFault before visits after × Given x
GivesUnlessFault before visits after Given (Err why) = HasFault before visits why

module _ (rows : List Placed) (base : Chars) (above : Visit) (left : ℕ) where
  -- the visits that a property makes under one of its names
  abbrev pub visits_of : Placed → List Visit
  visits_of e = elim (is_item e) as (λ item. List Visit) [ true ↦ visits_from (properties_in rows) (suc left) above e | false ↦ [] ]

  abbrev pub data_of : Placed → Data
  data_of e = elim (is_item e) as (λ item. Data) [ true ↦ json_of_item (properties_in rows) base left e | false ↦ string_of (said base e.facts.value) ]

  abbrev pub visits_in : List NamedProperty → List Visit
  visits_in steps = flat_map (λ (s : NamedProperty). visits_of s.element) steps

-- a visit begins, or is refused
abbrev pub BeginsVisit : Trail → Trail → Element → ℕ → Result (Unit {0}) Stop → Type 0
BeginsVisit old new element place (Ok x) =
    (visit_fault old.path.items old.visits place ≡ None) × (new.path.items ≡ old.path.items ++ place ∷ []) × (new.visits ≡ old.visits + 1)
BeginsVisit old new element place (Err stop.NoMemory) = ⊤
BeginsVisit old new element place (Err (stop.Fault fault)) =
    (kind : Kind) × (visit_fault old.path.items old.visits place ≡ Some kind) × (fault ≡ record { kind = kind; token = element.token; at = element.at })
