-- The open elements, as they are kept: of each its name and what its ancestors make of it. The innermost stands first.
use Rattle.std.specs.Prelude.{◌≡◌, ℕ, zero, suc, ◌+◌, Bool, false, not, ◌&&◌, List, [], ◌∷◌, Option, None, slice_index_or, take, option_map, if◌then◌else◌}
use Rattle.rx_grammar.specs.Common.{Chars, same, is_among, row_of, Place, outside, is_html, names_listed, has_row}
use Rattle.rx_nest.specs.declared.levels.Traits.{Traits}
use Rattle.rx_nest.specs.Rows.{row_seen}

-- Of an open element: its name; the place inside; the start tags that end it, where its end tag may be omitted; whether it is a p that its parent's
-- end doesn't end; whether it is in the page's tree, and whether what it holds isn't.
pub record Level : Type 0 where
  pub name : Chars
  pub inside : Place
  pub row : Option (List Chars)
  pub held : Bool
  pub shown : Bool
  pub hides : Bool

abbrev pub level_of : Chars → Traits → Level
level_of name t = record { name = name; inside = t.inside; row = option_map row_seen t.row; held = t.held; shown = t.shown; hides = t.hides }

abbrev pub Levels : Type 0
Levels = List Level

-- the open elements, how many there may be, and all that are kept in memory, the outermost first
pub record Opened : Type 0 where
  pub levels : Levels
  pub room : ℕ
  pub memory : List Level

abbrev pub no_level : Level
no_level = record { name = []; inside = outside; row = None; held = false; shown = false; hides = false }

-- the first n of a list, the last of them first
abbrev pub innermost_first : ℕ → List Level → Levels
innermost_first zero kept_levels = []
innermost_first (suc n) kept_levels = slice_index_or kept_levels n no_level ∷ innermost_first n kept_levels

-- this is the innermost one
abbrev pub IsTop : Level → Levels → Type 0
IsTop level levels = take 1 levels ≡ level ∷ []

abbrev pub place_under : Levels → Place
place_under [] = outside
place_under (level ∷ above) = level.inside

-- the row of an element of this name whose start tag stands at the place
abbrev pub row_at : Place → Chars → Option (List Chars)
row_at place name = if is_html place.content then row_of name else None

abbrev pub name_under : Levels → Chars
name_under [] = []
name_under (level ∷ above) = level.name

abbrev pub hidden_under : Levels → Bool
hidden_under [] = false
hidden_under (level ∷ above) = level.hides

-- an element that a start tag of this name ends, or an end tag
abbrev pub ends_by : Bool → Chars → Level → Bool
ends_by closing name level =
    if closing then has_row level.row && not (same level.name name) && not level.held else is_among (names_listed level.row) name

-- the elements that stay open, and how many of the others stand in the tree
abbrev pub kept_levels : (Level → Bool) → Levels → Levels
kept_levels ends [] = []
kept_levels ends (level ∷ above) = if ends level then kept_levels ends above else level ∷ above

abbrev pub one_if : Bool → ℕ
one_if test = if test then 1 else 0

abbrev pub ended_count : (Level → Bool) → Levels → ℕ
ended_count ends [] = 0
ended_count ends (level ∷ above) = if ends level then one_if level.shown + ended_count ends above else 0
