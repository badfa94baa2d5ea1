-- The items of a page as JSON: HTML, 5.4.1. Own rules: types lose repeats, keys stand in byte order, faults refuse.
use Rattle.std.specs.Prelude.{ℕ, zero, suc, true, false, List, [], ◌∷◌, map, filter, flat_map, Option, Some, None, codes, encode_utf8_all}
use Rattle.rx_rdfa.specs.Common.{nat_cmp, match_ordering, slice_cmp, Chars, resolved, Tree, Fault, Kind}
use Rattle.serde_json.specs.Data.{Data, Items, Members, null, array, object, no_items, no_members, member}
use Rattle.serde_json.specs.Data as json
use Rattle.rx_microdata.specs.Base.{base_in}
use Rattle.rx_microdata.specs.Facts.{MicrodataFacts, said}
use Rattle.rx_microdata.specs.Elements.{Placed, elements_of, is_item, names_of, is_top_level}
use Rattle.rx_microdata.specs.Properties.{properties}
use Rattle.rx_microdata.specs.Visits.{Bounds, Visit, visits_by, first_fault}
use Rattle.rx_json.specs.Plain.{string_of}

abbrev pub array_items : List Data → Items
array_items [] = no_items
array_items (value ∷ more) = json.item value (array_items more)

-- a value in front of those that a name has
abbrev pub onto : Data → Data → Data
onto value (array values) = array (json.item value values)
onto value other = array (json.item value no_items)

-- the members in byte order of their names, with a value in front of those of its name
abbrev pub with_member : List ℕ → Data → Members → Members
with_member name value no_members = member name (onto value null) no_members
with_member name value (member first values more) =
    match_ordering (slice_cmp nat_cmp name first) (member name (onto value null) (member first values more)) (member first (onto value values) more) (member first values (with_member name value more))

-- each name with the list of its values
abbrev pub grouped_members : List (Chars × Data) → Members
grouped_members [] = no_members
grouped_members (pair ∷ more) = with_member (encode_utf8_all pair.0) pair.1 (grouped_members more)

abbrev pub with_types : List Chars → Members → Members
with_types [] members = members
with_types (name ∷ types) members = member (codes "type") (array (array_items (map string_of (name ∷ types)))) members

abbrev pub with_id : Chars → Option Chars → Members → Members
with_id base None members = members
with_id base (Some reference) members = member (codes "id") (string_of (resolved base reference)) members

-- an item with the names and values of its properties
abbrev pub item_of : Chars → MicrodataFacts → List (Chars × Data) → Data
item_of base root pairs =
    object (with_id base root.item_id (member (codes "properties") (object (grouped_members pairs)) (with_types root.types no_members)))

abbrev pub property_pairs : Placed → Data → List (Chars × Data)
property_pairs e value = map (λ name. (name, value)) (names_of e)

-- an item, in which `left` items may nest, itself included, where these are the properties of each item
abbrev pub json_of_item : (Placed → List Placed) → Chars → ℕ → Placed → Data
json_of_item properties base zero root = null
json_of_item properties base (suc left) root =
    item_of base root.facts (flat_map (λ e. property_pairs e (elim (is_item e) as (λ nested. Data) [
      | true ↦ json_of_item properties base left e
      | false ↦ string_of (said base e.facts.value)
    ])) (properties root))

abbrev pub json_by : (Placed → List Placed) → Chars → ℕ → List Placed → Data
json_by properties base nested items =
    object (member (codes "items") (array (array_items (map (json_of_item properties base nested) items))) no_members)

-- the top-level items of a page
abbrev pub json_of : List Placed → Chars → ℕ → Data
json_of page base nested = json_by (properties page) base nested (filter is_top_level page)

-- what a page gives: a value, or a fault
pub data Outcome : Type 0 where
  Given : Data → Outcome
  Refused : Fault → Outcome

-- the fault of a visit stands at the start tag of its last item
abbrev pub refused : Kind → Visit → Outcome
refused kind [] = Refused (record { kind = kind; token = 0; at = 0 })
refused kind (root ∷ above) = Refused (record { kind = kind; token = root.facts.token; at = root.facts.at })

abbrev pub outcome_by : (Placed → List Placed) → Bounds → Chars → List Placed → Outcome
outcome_by properties bounds base items = elim (first_fault bounds 0 (visits_by properties bounds items)) as (λ found. Outcome) [
  | None ↦ Given (json_by properties base bounds.nested items)
  | Some found ↦ refused found.0 found.1
]

abbrev pub outcome_of : Bounds → List Placed → Chars → Outcome
outcome_of bounds page base = outcome_by (properties page) bounds base (filter is_top_level page)

-- the outcome of a tree that was read from an address
abbrev pub outcome : Bounds → Chars → Tree → Outcome
outcome bounds address tree = outcome_of bounds (elements_of tree) (base_in address tree)
