-- The properties of an item under each of their names, in tree order and by name, and the events that they come to.
use Rattle.rx_terms.specs.Common.{Bor, is_lt, nat_cmp, slice_cmp, IsSortedBy, IsStableBy, Chars}
use Rattle.std.specs.Prelude.{◌≡◌, ℕ, Bool, true, false, List, [], ◌∷◌, ◌++◌, map, flat_map, slice_get, Option, Some, None, option_map, bytes_eq, encode_utf8_all, if◌then◌else◌}
use Rattle.serde.specs.Event as event
use Rattle.serde.specs.Event.{Event}
use Rattle.serde.specs.declared.name.Case.TheVariants.{AsIs}
use Rattle.serde_json.specs.Data.{Data, Members, null, no_members, object}
use Rattle.rx_json.specs.Events.{data_events}
use Rattle.rx_microdata.specs.Elements.{Placed, is_item, names_of}
use Rattle.rx_microdata.specs.Json.{json_of_item, with_member}
use Rattle.rx_items.specs.Rows.{properties_in}
use Rattle.rx_items.specs.Held.{HoldsRows, IsElement, is_there}
use Rattle.rx_items.specs.declared.kept.Element.{Element}
use Rattle.rx_items.specs.declared.kept.Kept.{Kept}
use Rattle.rx_items.specs.Expanding.{data_of}
use Rattle.rx_items.specs.declared.named.Named.{Named}

-- a name, as bytes, and the place of the property that has it
abbrev pub Key : Type 0
Key = List ℕ × ℕ

abbrev pub keyed : List ℕ → ℕ → Key
keyed name place = (name, place)

abbrev pub name_key : ℕ → Chars → Key
name_key place name = keyed (encode_utf8_all name) place

-- a property under each of its names
abbrev pub keys_of : Placed → List Key
keys_of e = map (name_key e.place) (names_of e)

abbrev pub name_keys : List Placed → List Key
name_keys es = flat_map keys_of es

-- the same of the row at a place
abbrev pub keys_if : Option Placed → List Key
keys_if None = []
keys_if (Some e) = keys_of e

abbrev pub keys_at : List Placed → ℕ → List Key
keys_at rows place = keys_if (slice_get rows place)

abbrev pub key_seen : Named → Key
key_seen named = keyed named.name.now named.place

abbrev pub keys_seen : List Named → List Key
keys_seen list = map key_seen list

abbrev pub is_name_before : Named → Named → Bool
is_name_before a b = is_lt (slice_cmp nat_cmp a.name.now b.name.now)

-- these keys in byte order of their names, and those of one name in the order that they had
pub record ByName (keys : List Key) (list : List Named) : Type 0 where
  pub found : List Named
  pub are : keys_seen found ≡ keys
  pub rise : IsSortedBy is_name_before list
  pub keep : IsStableBy is_name_before found list

abbrev pub name_seen : Option (Bor (List ℕ)) → Option (List ℕ)
name_seen name = option_map (λ n. n.now) name

-- What stands before a value of this name, behind the values of the name before: nothing where that is the same, else the
-- end of those values, and the name.
abbrev pub opening : Option (List ℕ) → List ℕ → List Event
opening None name = event.field_key name AsIs ∷ event.seq_begins None ∷ []
opening (Some before) name = if bytes_eq before name then [] else event.seq_ends ∷ event.field_key name AsIs ∷ event.seq_begins None ∷ []

abbrev pub ending_events : Option (List ℕ) → List Event
ending_events None = []
ending_events (Some before) = event.seq_ends ∷ []

-- what is so of the row at a place
abbrev pub OfRow : Kept → ℕ → (List Placed → Chars → Placed → Type 0) → Type 0
OfRow kept place Holds = (rows : List Placed) (base : Chars) (e : Placed) → HoldsRows kept rows base → slice_get rows place ≡ Some e → Holds rows base e

-- the same of a row that this element is, and that is an item
abbrev pub OfItem : Kept → ℕ → Element → (List Placed → Chars → Placed → Type 0) → Type 0
OfItem kept place element Holds =
    OfRow kept place (λ rows base root. IsElement kept rows place element root → is_item root ≡ true → Holds rows base root)

-- what is so of a place where no item stands, whatever number of items may nest
abbrev pub OfPlain : Kept → ℕ → (List Placed → Chars → ℕ → Type 0) → Type 0
OfPlain kept place Holds =
    (rows : List Placed) (base : Chars) (left : ℕ) → HoldsRows kept rows base → is_there is_item (slice_get rows place) ≡ false → Holds rows base left

module _ (rows : List Placed) (base : Chars) (left : ℕ) where
  abbrev pub value_if : Option Placed → Data
  value_if None = null
  value_if (Some e) = data_of rows base [] left e

  -- the value of the property at a place
  abbrev pub value_at : ℕ → Data
  value_at place = value_if (slice_get rows place)

  -- each name with the list of its values
  abbrev pub grouped_at : List Key → Members
  grouped_at [] = no_members
  grouped_at (key ∷ keys) = with_member key.0 (value_at key.1) (grouped_at keys)

  -- an item in which so many may nest, itself included
  abbrev pub item_data : Placed → Data
  item_data root = json_of_item (properties_in rows) base left root

  -- its properties
  abbrev pub properties_data : Placed → Data
  properties_data root = object (grouped_at (name_keys (properties_in rows root)))

  -- the events of a value, behind the values of the name before
  abbrev pub value_behind : Option (List ℕ) → Key → List Event
  value_behind before key = opening before key.0 ++ data_events (value_at key.1)

  -- the events of values one behind another, behind the values of the name before
  abbrev pub events_behind : Option (List ℕ) → List Key → List Event
  events_behind before [] = ending_events before
  events_behind before (key ∷ keys) = opening before key.0 ++ (data_events (value_at key.1) ++ events_behind (Some key.0) keys)
