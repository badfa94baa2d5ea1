-- The open elements that a nest keeps, and so its depth, are those of the grammar.
use Rattle.std.specs.Prelude.{◌≡◌, ℕ, List, length, None}
use Rattle.rx_grammar.specs.Common.{PlacedCharacter, Syntax, Line, Phase, Begun}
use Rattle.rx_grammar.specs.declared.limits.Limits.{Limits}
use Rattle.rx_pages.specs.Fronts.{IsUnderway}
use Rattle.rx_nest.specs.Lines.{Lines}
use Rattle.rx_nest.specs.Follows.{AreLevels}
use Rattle.rx_nest.specs.Signs.{Sign}
use Rattle.rx_nest.specs.Nests.{Nested, NestStands}

-- These elements are open, and no others.
pub record HasOpen (syntax : Syntax) (open_ones : Lines) (line : Line) : Type 0 where
  pub levels : AreLevels syntax open_ones.levels line
  pub depth : length open_ones.levels ≡ length line

-- law: those of the front of the page that the bytes are, where nothing is unfinished
abbrev pub HasOpenOfFronts : Type 0
HasOpenOfFronts = (syntax : Syntax) (limits : Limits) (nest : Nested) (bytes : List ℕ) (signs : List Sign) (line : Line) (phase : Phase)
    → NestStands syntax limits nest bytes signs → Begun syntax limits bytes None line phase → HasOpen syntax nest.line line

-- law: those of the front before what is unfinished, else
abbrev pub HasOpenUnderway : Type 0
HasOpenUnderway =
    (syntax : Syntax) (limits : Limits) (nest : Nested) (bytes : List ℕ) (signs : List Sign) (line : Line) (phase : Phase) (run : List PlacedCharacter) (part : List ℕ)
    → NestStands syntax limits nest bytes signs → IsUnderway syntax limits bytes line phase run part → HasOpen syntax nest.line line
