-- Why the bytes of a page are refused.
use Rattle.std.specs.Prelude.{◌≡◌, ◌<◌, ◌+◌, ℕ, List, ◌++◌, length, take, Some, None}
use Rattle.rx_grammar.specs.declared.faults.Fault.{Fault}
use Rattle.rx_grammar.specs.declared.limits.Limits.{Limits}
use Rattle.rx_grammar.specs.Common.{Line, Phase, Begun, FaultAt, Page, Tree}
use Rattle.rx_pages.specs.Closings.{closed, IsWide}
use Rattle.rx_grammar.specs.declared.stops.Stop.{Stop}
use Rattle.rx_grammar.specs.declared.stops.Stop.TheVariants as stop
use Rattle.rx_nest.specs.Signs.{signs_of}
use Rattle.rx_nest.specs.Ways.{Way}

-- A start tag is refused for what it means, and none before it. The bytes through its last one are the front of a page, with nothing
-- unfinished; and of the page that they are once what is open is closed, apart from the limits of tag and page, it is the first start tag
-- that is refused. So it stands outside `template`, whose inside no tree has, and it is the last one in the bytes.
pub record MeaningAt (way : Way) (bytes : List ℕ) (fault : Fault) : Type 0 where
  pub within : fault.at < length bytes
  pub line : Line
  pub phase : Phase
  pub begun : Begun way.syntax way.limits (take (fault.at + 1) bytes) None line phase
  pub tree : Tree
  pub page : (wide : Limits) → IsWide way.limits wide (length (closed (take (fault.at + 1) bytes) line phase))
      → Page way.syntax wide (closed (take (fault.at + 1) bytes) line phase) tree
  pub refused : way.refused (signs_of tree) ≡ Some fault

-- Why the bytes are refused: for their form, where no start tag that stands before is refused; or for what a start tag
-- means that stands before any fault of their form.
pub data Refuses (way : Way) (bytes : List ℕ) (fault : Fault) : Type 0 where
  for_form : FaultAt way.syntax way.limits bytes fault → ((other : Fault) → MeaningAt way bytes other → ⊥) → Refuses way bytes fault
  for_meaning : MeaningAt way bytes fault → ((other : Fault) → FaultAt way.syntax way.limits bytes other → fault.at < other.at) → Refuses way bytes fault

-- One of the bytes decides the fault, whatever follows.
pub record Stops (way : Way) (bytes : List ℕ) (fault : Fault) : Type 0 where
  pub stays : (rest : List ℕ) → Refuses way (bytes ++ rest) fault
  pub within : fault.at < length bytes

abbrev pub StopGives : Way → List ℕ → Stop → Type 0
StopGives way bytes (stop.Fault fault) = Stops way bytes fault
StopGives way bytes stop.NoMemory = Unit {0}
