-- Where the fault of a page lies that a piece brings.
use Rattle.std.specs.Prelude.{◌≡◌, ◌≤◌, ◌+◌, ℕ, List, ◌++◌, length, take, Option, Some, None, Result, Ok, Err}
use Rattle.rx_grammar.specs.Common.{Syntax, Page, FaultAt, Tree, Line, Phase, Begun}
use Rattle.rx_grammar.specs.declared.faults.Fault.{Fault}
use Rattle.rx_grammar.specs.declared.limits.Limits.{Limits}
use Rattle.rx_pages.specs.Closings.{closed, IsWide, IsPageFront}
use Rattle.rx_grammar.specs.declared.stops.Stop.{Stop}
use Rattle.rx_grammar.specs.declared.stops.Stop.TheVariants as stop
use Rattle.rx_nest.specs.Signs.{Sign, signs_of}
use Rattle.rx_nest.specs.Ways.{Way}
use Rattle.rx_nest.specs.Faults.{MeaningAt}
use Rattle.rx_nest.specs.Readings.{Read, ReadingStands}

-- no page begins with these bytes
abbrev pub BeginsNone : Syntax → Limits → List ℕ → Type 0
BeginsNone syntax limits bytes = (rest : List ℕ) (tree : Tree) → Page syntax limits (bytes ++ rest) tree → ⊥

-- of each page that begins with them the same start tag is refused
abbrev pub BeginsRefused : Way → List ℕ → Fault → Type 0
BeginsRefused way bytes fault =
    (rest : List ℕ) (tree : Tree) → Page way.syntax way.limits (bytes ++ rest) tree → way.refused (signs_of tree) ≡ Some fault

-- Apart from the limits of tag and page the bytes are a page of which no start tag is refused.
pub record IsAcceptedPage (way : Way) (bytes : List ℕ) : Type 0 where
  pub tree : Tree
  pub page : (wide : Limits) → IsWide way.limits wide (length bytes) → Page way.syntax wide bytes tree
  pub accepted : way.refused (signs_of tree) ≡ None

-- The bytes are the front of a page, and closed they are one of which no start tag is refused.
pub record IsAcceptedFront (way : Way) (bytes : List ℕ) : Type 0 where
  pub next : Option ℕ
  pub line : Line
  pub phase : Phase
  pub begun : Begun way.syntax way.limits bytes next line phase
  pub closes : 1 ≤ way.limits.depth → IsAcceptedPage way (closed bytes line phase)

-- A fault of the form: no page begins with the bytes through its place, and those before its token are the front of a page.
-- A start tag that is refused: no page without such a tag begins with the bytes through its place, and those before its
-- token are the front of one without such a tag.
pub data PlaceLaw (way : Way) (bytes : List ℕ) (fault : Fault) : Type 0 where
  of_form : FaultAt way.syntax way.limits bytes fault → BeginsNone way.syntax way.limits (take (fault.at + 1) bytes)
      → IsPageFront way.syntax way.limits (take fault.token bytes) → PlaceLaw way bytes fault
  of_meaning : MeaningAt way bytes fault → BeginsRefused way (take (fault.at + 1) bytes) fault
      → IsAcceptedFront way (take fault.token bytes) → PlaceLaw way bytes fault

-- It lies in the piece that brought it.
pub record LiesInPiece (way : Way) (bytes piece : List ℕ) (fault : Fault) : Type 0 where
  pub from : length bytes ≤ fault.at
  pub law : PlaceLaw way (bytes ++ piece) fault

abbrev pub PlaceGives : Way → List ℕ → List ℕ → Result (Unit {0}) Stop → Type 0
PlaceGives way bytes piece (Ok done) = Unit {0}
PlaceGives way bytes piece (Err (stop.Fault fault)) = LiesInPiece way bytes piece fault
PlaceGives way bytes piece (Err stop.NoMemory) = Unit {0}

-- A fault that is answered has its place by that law, whatever bytes the reading stands for.
abbrev pub FeedsInPlace : {S L : Type 0} → (S → Way) → (S → L → List Sign → Type 0) → Read L → List ℕ → Result (Unit {0}) Stop → Type 0
FeedsInPlace {S} way knows old piece result =
    (setting : S) (bytes : List ℕ) → ReadingStands (way setting) (knows setting) old bytes → PlaceGives (way setting) bytes piece result
