-- What a walk for a page's items stands for, and what its calls answer of a page's bytes.
use Rattle.std.specs.Prelude.{◌≡◌, ℕ, true, false, List, length, Result, Ok, Err, IfOk}
use Rattle.rx_terms.specs.declared.texts.NoMemory.{NoMemory}
use Rattle.rx_rdfa.specs.Common.{Unended, Page, Tree, Stop}
use Rattle.rx_grammar.specs.PageFaults.{FaultAt}
use Rattle.rx_grammar.specs.declared.stops.Stop.TheVariants as stop
use Rattle.rx_scan.specs.Entries.{IsNoMemory}
use Rattle.rx_scan.specs.Steps.{is_quiet}
use Rattle.rx_nest.specs.Nests.{IsBetween}
use Rattle.rx_nest.specs.Readings as readings
use Rattle.rx_nest.specs.Readings.{Read, Whole}
use Rattle.rx_microdata.specs.Base.{base_in}
use Rattle.rx_items.specs.Growing.{GathersNoText}
use Rattle.rx_items.specs.Rows.{rows_of}
use Rattle.rx_items.specs.Held.{HoldsRows}
use Rattle.rx_items.specs.Collecting.{MicrodataSetting, microdata_way, Collects}
use Rattle.rx_items.specs.declared.collectors.Collector.{Collector}
use Rattle.rx_items.specs.declared.kept.Kept.{Kept}

-- the page's elements as they are read, what is kept of them, the fault that was answered, and want of memory
abbrev pub ItemsWalked : Type 0
ItemsWalked = Read Collector

-- The walk stands for these bytes of a page: its elements were told, and nothing is due.
abbrev pub ItemWalkStands : MicrodataSetting → ItemsWalked → List ℕ → Type 0
ItemWalkStands setting walk bytes = readings.ReadingStands (microdata_way setting) (Collects setting) walk bytes

abbrev pub ItemWalkFeedGives : MicrodataSetting → List ℕ → List ℕ → Result (Unit {0}) Stop → ItemsWalked → Type 0
ItemWalkFeedGives setting bytes piece result new = readings.FeedGives (microdata_way setting) (Collects setting) bytes piece result new

-- A piece that begins nothing wants no memory between tokens, where no value gathers its text.
abbrev pub FeedsQuietly : ItemsWalked → List ℕ → Result (Unit {0}) Stop → Type 0
FeedsQuietly old piece result =
    (setting : MicrodataSetting) (bytes : List ℕ) → ItemWalkStands setting old bytes → IsBetween setting.syntax setting.limits bytes
    → is_quiet piece ≡ true → GathersNoText old.listener.table → IsNoMemory result ≡ false

-- Where a collector was told a whole page, its items are kept, with the base of the page at its address.
abbrev pub GivesItems : Collector → Result Kept NoMemory → Type 0
GivesItems collector result =
    (setting : MicrodataSetting) (bytes : List ℕ) (whole : Whole (microdata_way setting) (Collects setting) bytes collector)
    → IfOk result (λ items. HoldsRows items (rows_of whole.tree) (base_in setting.address whole.tree))

-- The bytes are a page, and its items are kept, with the base of the page at its address.
pub record ItemWalkEnded (setting : MicrodataSetting) (bytes : List ℕ) (kept : Kept) : Type 0 where
  pub tree : Tree
  pub page : Page setting.syntax setting.limits bytes tree
  pub holds : HoldsRows kept (rows_of tree) (base_in setting.address tree)

abbrev pub ItemWalkEndGives : MicrodataSetting → List ℕ → Result Kept Stop → Type 0
ItemWalkEndGives setting bytes (Ok kept) = ItemWalkEnded setting bytes kept
ItemWalkEndGives setting bytes (Err (stop.Fault fault)) = FaultAt setting.syntax setting.limits bytes fault × (fault.kind ≡ Unended) × (fault.at ≡ length bytes)
ItemWalkEndGives setting bytes (Err stop.NoMemory) = Unit {0}
