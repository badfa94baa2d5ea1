-- The elements of a page that matter: items, those with property names, and those that itemref may find. Of the others
-- neither properties nor visits nor the JSON say anything.
use Rattle.std.specs.Prelude.{◌≡◌, ℕ, suc, ◌+◌, Bool, not, ◌&&◌, ◌||◌, List, [], ◌∷◌, ◌++◌, filter, Option, None, unwrap_or, is_some, if◌then◌else◌}
use Rattle.rx_grammar.specs.Common.{Chars, Tree, end, element, text}
use Rattle.rx_microdata.specs.Facts.{MicrodataFacts, Written, facts_of}
use Rattle.rx_microdata.specs.Elements.{Placed, scope_in, elements_of, is_top_level}
use Rattle.rx_microdata.specs.Properties.{is_any}
use Rattle.rx_microdata.specs.Laws.{is_property_by_scope}
use Rattle.rx_microdata.specs.Visits.{Bounds}
use Rattle.rx_microdata.specs.Json.{Outcome, outcome_by, outcome_of}

abbrev pub matters : MicrodataFacts → Bool
matters facts = facts.is_item || (is_some facts.names || is_some facts.id)

-- whether the value of an element is asked for: it is a property, and no item
abbrev pub is_valued : MicrodataFacts → Bool
is_valued facts = not facts.is_item && is_any (unwrap_or facts.names [])

-- what is kept of an element: its value where that is asked for
abbrev pub needed : MicrodataFacts → MicrodataFacts
needed facts = record facts { value = if is_valued facts then facts.value else Written [] }

-- the place behind one that is a row or isn't
abbrev pub behind_row : Bool → ℕ → ℕ
behind_row is_row place = if is_row then suc place else place

abbrev pub row_count : Tree → ℕ
row_count end = 0
row_count (element tag inner more) = behind_row (matters (facts_of tag inner)) (row_count inner) + row_count more
row_count (text chars more) = row_count more

abbrev pub with_row : Bool → Placed → List Placed → List Placed
with_row is_row row rows = if is_row then row ∷ rows else rows

-- the rows of these nodes, of which the first stands at `place`, below an item that stands at `scope`
abbrev pub rows_from : Option ℕ → ℕ → Tree → List Placed
rows_from scope place end = []
rows_from scope place (element tag inner more) =
    with_row (matters (facts_of tag inner))
    (record { place = place; past = behind_row (matters (facts_of tag inner)) place + row_count inner; scope = scope; facts = needed (facts_of tag inner) })
    (rows_from (scope_in tag place scope) (behind_row (matters (facts_of tag inner)) place) inner
    ++ rows_from scope (behind_row (matters (facts_of tag inner)) place + row_count inner) more)
rows_from scope place (text chars more) = rows_from scope place more

abbrev pub rows_of : Tree → List Placed
rows_of tree = rows_from None 0 tree

-- the properties of an item by the nearest items around
abbrev pub properties_in : List Placed → Placed → List Placed
properties_in rows root = filter (is_property_by_scope rows root) rows

-- what rows come to
abbrev pub outcome_in : Bounds → Chars → List Placed → Outcome
outcome_in bounds base rows = outcome_by (properties_in rows) bounds base (filter is_top_level rows)

-- law: the rows of a page come to what the page comes to
abbrev pub RowsSuffice : Type 0
RowsSuffice = (bounds : Bounds) (base : Chars) (tree : Tree) → outcome_in bounds base (rows_of tree) ≡ outcome_of bounds (elements_of tree) base
