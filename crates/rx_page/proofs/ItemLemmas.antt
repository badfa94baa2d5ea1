-- Items of a page, from what was read of it to what it is.
use Rattle.rx_items.proofs.Common.{◌≡◌, ◌∙◌, ℕ, suc, Bool, true, false, List, [], ◌∷◌, ◌++◌, refl, ap, subst, Option, Some, None, Err, if◌then◌else◌, Vec, codes, filter, option_map, option_or, Chars, Tree, Fault, Kind, Cycle, ItemsTooNested, ItemsTooMany, Stop, elements_of, is_top_level, Outcome, Given, Refused, json_by, refused, outcome, properties, Bounds, Visit, standard_bounds, is_cycle, fault_of, first_fault, visits_by, IsTextOf, TextGives}
use Rattle.std.specs.declared.alloc.Global.{Global}
use Rattle.rx_grammar.specs.declared.stops.Stop.TheVariants as stop
use Rattle.rx_microdata.specs.Base.{base_in}
use Rattle.rx_page.specs.JsonTexts.{JsonTextGives}
use Rattle.rx_page.specs.Texts.{JsonText}
use Rattle.rx_page.specs.Tasks.{is_of_items}

pub json_text : (address : Chars) (tree : Tree) (text line : List ℕ) → IsTextOf (outcome standard_bounds address tree) text → line ≡ text ++ codes "\n" → JsonText address tree line
json_text address tree text line is ended = record { value = is.value; given = is.given; spelled = ended ∙ ap (λ (t : List ℕ). t ++ codes "\n") is.spelled }

pub json_stops : (address : Chars) (tree : Tree) (why : Stop) → TextGives (outcome standard_bounds address tree) (Err why) → JsonTextGives {V = Vec ℕ Global} (λ text. text.items) address tree (Err why)
json_stops address tree (stop.Fault fault) g = g
json_stops address tree stop.NoMemory g = tt

abbrev both : Kind → Visit → Kind × Visit
both kind visit = (kind, visit)

abbrev kind_in : Kind → Option (Kind × Visit) → Kind
kind_in other None = other
kind_in other (Some found) = found.0

-- what holds of the three kinds of items' faults holds of each fault of an item
module _ (holds : Kind → Type 0) (cycle : holds Cycle) (nested : holds ItemsTooNested) (many : holds ItemsTooMany) where
  chain : (a b d : Bool) (kind : Kind) → ◌≡◌ {A = Option Kind} (if a then Some Cycle else if b then Some ItemsTooNested else if d then Some ItemsTooMany else None) (Some kind) → holds kind
  chain true b d kind e = let same : Cycle ≡ kind = cc in subst holds same cycle
  chain false true d kind e = let same : ItemsTooNested ≡ kind = cc in subst holds same nested
  chain false false true kind e = let same : ItemsTooMany ≡ kind = cc in subst holds same many
  chain false false false kind e = absurd (cc)

  first_kind : (bounds : Bounds) (before : ℕ) (visits : List Visit) (kind : Kind) (visit : Visit) → ◌≡◌ {A = Option (Kind × Visit)} (first_fault bounds before visits) (Some (kind, visit)) → holds kind
  first_kind bounds before [] kind visit e = absurd (cc)
  first_kind bounds before (first ∷ more) kind visit e = by (first_kind bounds (suc before) more kind visit) (fault_of bounds before first) refl e
    where
      by : (◌≡◌ {A = Option (Kind × Visit)} (first_fault bounds (suc before) more) (Some (kind, visit)) → holds kind) → (x : Option Kind) → fault_of bounds before first ≡ x
          → ◌≡◌ {A = Option (Kind × Visit)} (option_or (option_map (λ fault. both fault first) x) (first_fault bounds (suc before) more)) (Some (kind, visit)) → holds kind
      by on None k h = on h
      by on (Some fault) k h = let same : fault ≡ kind = ap (kind_in kind) h in chain (is_cycle first) _ _ kind (k ∙ ap Some same)

  of_items : (kind : Kind) (visit : Visit) (fault : Fault) → refused kind visit ≡ Refused fault → holds kind → holds fault.kind
  of_items kind [] fault e k = let same : record { kind = kind; token = 0; at = 0 } ≡ fault = cc in subst (λ (f : Fault). holds f.kind) same k
  of_items kind (root ∷ above) fault e k = let same : record { kind = kind; token = root.facts.token; at = root.facts.at } ≡ fault = cc in subst (λ (f : Fault). holds f.kind) same k

  pub item_kind : (address : Chars) (tree : Tree) (fault : Fault) → outcome standard_bounds address tree ≡ Refused fault → holds fault.kind
  item_kind address tree fault e = by (first_fault standard_bounds 0 (visits_by (properties (elements_of tree)) standard_bounds (filter is_top_level (elements_of tree)))) refl e
    where
      by : (x : Option (Kind × Visit)) → first_fault standard_bounds 0 (visits_by (properties (elements_of tree)) standard_bounds (filter is_top_level (elements_of tree))) ≡ x
          → elim x as (λ found. Outcome) [ None ↦ Given (json_by (properties (elements_of tree)) (base_in address tree) standard_bounds.nested (filter is_top_level (elements_of tree))) | Some found ↦ refused found.0 found.1 ] ≡ Refused fault
          → holds fault.kind
      by None k h = absurd (cc)
      by (Some found) k h = of_items found.0 found.1 fault h (first_kind standard_bounds 0 (visits_by (properties (elements_of tree)) standard_bounds (filter is_top_level (elements_of tree))) found.0 found.1 k)

-- a fault of an item is one of items
pub item_of_items : (address : Chars) (tree : Tree) (fault : Fault) → outcome standard_bounds address tree ≡ Refused fault → is_of_items fault.kind ≡ true
item_of_items address tree fault e = item_kind (λ kind. is_of_items kind ≡ true) refl refl refl address tree fault e
