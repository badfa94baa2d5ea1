-- The elements of a page as a table in document order, each with the place at which what is in it ends.
use Rattle.std.specs.Prelude.{ℕ, suc, ◌+◌, Bool, true, false, ◌&&◌, nat_lt, List, [], ◌∷◌, ◌++◌, Option, Some, None, unwrap_or, IsTrue, if◌then◌else◌}
use Rattle.rx_grammar.specs.Common.{Chars, StartTag, Tree, end, element, text}
use Rattle.rx_microdata.specs.Facts.{MicrodataFacts, begins_item, facts_of}

-- an element: its place in document order, the place past all that is in it, the place of the nearest item around it, and
-- what is read of it. Properties, visits and JSON don't rest on `scope`: laws speak of it, and the tables of a page's rows.
pub record Placed : Type 0 where
  pub place : ℕ
  pub past : ℕ
  pub scope : Option ℕ
  pub facts : MicrodataFacts

-- how many elements these nodes have
abbrev pub count : Tree → ℕ
count end = 0
count (element tag inner more) = suc (count inner + count more)
count (text chars more) = count more

-- the nearest item around what is in an element that stands at `place`
abbrev pub scope_in : StartTag → ℕ → Option ℕ → Option ℕ
scope_in tag place scope = if begins_item tag then Some place else scope

-- the elements of these nodes, of which the first stands at `place`
abbrev pub placed_from : Option ℕ → ℕ → Tree → List Placed
placed_from scope place end = []
placed_from scope place (element tag inner more) =
    record { place = place; past = suc place + count inner; scope = scope; facts = facts_of tag inner }
    ∷ (placed_from (scope_in tag place scope) (suc place) inner ++ placed_from scope (suc place + count inner) more)
placed_from scope place (text chars more) = placed_from scope place more

abbrev pub elements_of : Tree → List Placed
elements_of tree = placed_from None 0 tree

-- an element is below another where its place is in that one's interval
abbrev pub is_below : Placed → Placed → Bool
is_below outer e = nat_lt outer.place e.place && nat_lt e.place outer.past

abbrev pub IsBelow : Placed → Placed → Type 0
IsBelow outer e = IsTrue (is_below outer e)

abbrev pub is_item : Placed → Bool
is_item e = e.facts.is_item

-- HTML, 5.2.3: the property names of an element, each once
abbrev pub names_of : Placed → List Chars
names_of e = unwrap_or e.facts.names []

abbrev pub is_absent : Option (List Chars) → Bool
is_absent None = true
is_absent (Some names) = false

-- HTML, 5.2.5: a top-level item has no itemprop attribute
abbrev pub is_top_level : Placed → Bool
is_top_level e = is_item e && is_absent e.facts.names
