-- The properties of an item: HTML, 5.2.5.
use Rattle.std.specs.Prelude.{Bool, true, false, not, ◌&&◌, ◌||◌, ◌==◌, nat_le, List, [], ◌∷◌, ◌++◌, filter, filter_map, find, Contains, Option, Some, None, IsTrue, IsFalse, ◌≡◌}
use Rattle.rx_grammar.specs.Common.{list_any, list_all, Chars, same}
use Rattle.rx_microdata.specs.Elements.{Placed, is_below, IsBelow, is_item, names_of}

abbrev pub is_any : List Chars → Bool
is_any [] = false
is_any (name ∷ names) = true

abbrev pub is_same_id : Chars → Option Chars → Bool
is_same_id token None = false
is_same_id token (Some id) = same token id

abbrev pub has_id : Chars → Placed → Bool
has_id token e = is_same_id token e.facts.id

-- DOM, 4.2.4: the first element with that id
abbrev pub first_with_id : List Placed → Chars → Option Placed
first_with_id page token = find (has_id token) page

-- DOM, 1.1: a child is below, with no element between
abbrev pub IsChild : List Placed → Placed → Placed → Type 0
IsChild page outer e =
    IsBelow outer e × ((between : Placed) → Contains page between → IsBelow outer between → IsFalse (is_below between e))

-- HTML, 5.2.5: where the search for an item's properties begins
pub data IsStart (page : List Placed) (root start : Placed) : Type 0 where
  child : Contains page start → IsChild page root start → IsStart page root start
  named : (token : Chars) → Contains root.facts.references token → first_with_id page token ≡ Some start → IsStart page root start

-- HTML, 5.2.5: a start reaches itself, and what is below it unless it or an element between is an item
pub data Reaches (page : List Placed) (start e : Placed) : Type 0 where
  itself : IsTrue (start.place == e.place) → Reaches page start e
  downward : IsBelow start e
      → ((between : Placed) → Contains page between → IsTrue (nat_le start.place between.place) → IsBelow between e → IsFalse (is_item between))
      → Reaches page start e

-- HTML, 5.2.5: an element other than the item, with a property name, that a start reaches
pub record IsProperty (page : List Placed) (root e : Placed) : Type 0 where
  pub stands : Contains page e
  pub is_other : IsFalse (root.place == e.place)
  pub has_name : IsTrue (is_any (names_of e))
  pub start : Placed
  pub starts : IsStart page root start
  pub reached : Reaches page start e

-- the same as tests
abbrev pub is_child : List Placed → Placed → Placed → Bool
is_child page outer e = is_below outer e && list_all (λ between. not (is_below outer between && is_below between e)) page

abbrev pub starts_of : List Placed → Placed → List Placed
starts_of page root = filter (is_child page root) page ++ filter_map (first_with_id page) root.facts.references

abbrev pub reaches : List Placed → Placed → Placed → Bool
reaches page e start =
    start.place == e.place
    || is_below start e && list_all (λ between. not (nat_le start.place between.place && is_below between e && is_item between)) page

abbrev pub is_property : List Placed → Placed → List Placed → Placed → Bool
is_property page root starts e = not (root.place == e.place) && is_any (names_of e) && list_any (reaches page e) starts

-- HTML, 5.2.5: the properties in tree order
abbrev pub properties : List Placed → Placed → List Placed
properties page root = filter (is_property page root (starts_of page root)) page
