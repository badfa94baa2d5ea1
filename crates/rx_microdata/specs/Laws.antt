-- What the definitions come to.
use Rattle.std.specs.Prelude.{◌≡◌, ℕ, Bool, true, false, not, filter, filter_map, IsTrue, ◌==◌, nat_lt, ◌&&◌, ◌||◌, Option, Some, None, ◌<◌, List, [], ◌∷◌, All, Contains, ◌↔◌, ⊤}
use Rattle.rx_grammar.specs.Common.{list_any, Tree}
use Rattle.rx_microdata.specs.Elements.{Placed, is_below, is_item, names_of, elements_of}
use Rattle.rx_microdata.specs.Properties.{IsProperty, is_any, first_with_id, reaches, properties}

-- the places rise strictly, so each stands once
abbrev pub Rise : List Placed → Type 0
Rise [] = ⊤
Rise (e ∷ more) = All (λ later. e.place < later.place) more × Rise more

-- the list of properties holds the properties, and no others
abbrev pub PropertiesAre : Type 0
PropertiesAre = (page : List Placed) (root e : Placed) → Contains (properties page root) e ↔ IsProperty page root e

-- they stand in tree order, each once
abbrev pub PropertiesRise : Type 0
PropertiesRise = (tree : Tree) (root : Placed) → Rise (properties (elements_of tree) root)

-- a place comes behind the nearest item around an element
abbrev pub is_after_scope : Option ℕ → ℕ → Bool
is_after_scope None place = true
is_after_scope (Some scope) place = nat_lt scope place

-- the test of the code, with no look at what is between
abbrev pub reaches_by_scope : Placed → Placed → Bool
reaches_by_scope e start = start.place == e.place || is_below start e && is_after_scope e.scope start.place

-- a start reaches what is below it where the nearest item around that comes before the start
abbrev pub ScopesTell : Type 0
ScopesTell = (tree : Tree) (start e : Placed) → Contains (elements_of tree) start → Contains (elements_of tree) e
    → reaches (elements_of tree) e start ≡ reaches_by_scope e start

-- whether an element is the nearest item around
abbrev pub is_scope : ℕ → Option ℕ → Bool
is_scope place None = false
is_scope place (Some scope) = scope == place

-- the code's test, which looks at no child: the item is the nearest one around the element, or a start that itemref names reaches it
abbrev pub is_property_by_scope : List Placed → Placed → Placed → Bool
is_property_by_scope page root e =
    not (root.place == e.place) && is_any (names_of e)
    && (is_scope root.place e.scope || list_any (reaches_by_scope e) (filter_map (first_with_id page) root.facts.references))

abbrev pub ScopesList : Type 0
ScopesList = (tree : Tree) (root : Placed) → Contains (elements_of tree) root → IsTrue (is_item root)
    → properties (elements_of tree) root ≡ filter (is_property_by_scope (elements_of tree) root) (elements_of tree)
