-- What is said of a node, by places under keys.
use Rattle.rx_model.specs.Common.{Bor, BTreeMap, get_by, slice_cmp, nat_cmp, Node, Triple}
use Rattle.std.specs.Prelude.{ℕ, List, [], ◌∷◌, map, codes, encode_utf8_all, slice_get, Option, Some, None, Vec}
use Rattle.std.specs.Global.{Global}
use Rattle.serde_json.specs.Data.{Data, null, array, object, Members, no_members, member}
use Rattle.serde_json.specs.View.{items_of}
use Rattle.rx_shapes.specs.declared.shapes.Shape.{Shape}
use Rattle.rx_jsonld.specs.Value.{id_text, object_value, type_of}
use Rattle.rx_json.specs.Plain.{string_of}

-- the key under which a triple speaks
abbrev pub member_name_by : Triple ℕ → Option (Node ℕ) → List ℕ
member_name_by t (Some node) = codes "@type"
member_name_by t None = encode_utf8_all t.predicate

abbrev pub member_name : Triple ℕ → List ℕ
member_name t = member_name_by t (type_of t)

-- places under a key
abbrev pub Group : Type 0
Group = Bor (List ℕ) × Vec ℕ Global

-- places under their keys, as they are gathered
abbrev pub Gathered : Type 0
Gathered = BTreeMap (Bor (List ℕ)) (Vec ℕ Global)

-- the places that stand under a key
abbrev pub places_under : Gathered → List ℕ → Option (Vec ℕ Global)
places_under groups key = get_by (λ first. slice_cmp nat_cmp key first.now) groups

module _ (list : List (Triple ℕ)) (shapes : ℕ → Shape) where
  abbrev pub value_by : Triple ℕ → Option (Node ℕ) → Data
  value_by t (Some node) = string_of (id_text node)
  value_by t None = object_value list shapes t

  -- the value that a triple puts under its key
  abbrev pub value_said : Triple ℕ → Data
  value_said t = value_by t (type_of t)

  abbrev pub value_if : Option (Triple ℕ) → Data
  value_if (Some t) = value_said t
  value_if None = null

  abbrev pub value_at : ℕ → Data
  value_at place = value_if (slice_get list place)

  abbrev pub values_at : List ℕ → List Data
  values_at places = map value_at places

  abbrev pub array_at : List ℕ → Data
  array_at places = array (items_of (values_at places))

  -- the members for which places under their keys stand
  abbrev pub grouped : List Group → Members
  grouped [] = no_members
  grouped (group ∷ more) = member group.0.now (array_at group.1.items) (grouped more)

  -- the node object of a subject of which the groups are all that is said
  abbrev pub grouped_node : Node ℕ → List Group → Data
  grouped_node subject groups = object (member (codes "@id") (string_of (id_text subject)) (grouped groups))
