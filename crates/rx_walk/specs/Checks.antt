-- What a check stands for, and what its calls answer of a page's bytes.
use Rattle.std.specs.Prelude.{◌≡◌, ℕ, true, false, List, [], None, Result, Ok, Err}
use Rattle.rx_rdfa.specs.Common.{Page, Tree, Stop}
use Rattle.rx_scan.specs.Entries.{IsNoMemory}
use Rattle.rx_scan.specs.Steps.{is_quiet}
use Rattle.rx_nest.specs.Nests.{IsBetween}
use Rattle.rx_nest.specs.Signs.{signs_of}
use Rattle.rx_nest.specs.Readings as readings
use Rattle.rx_nest.specs.Readings.{EndsWithinPage, Read}
use Rattle.rx_walk.specs.declared.scopes.CheckingListener.{CheckingListener}
use Rattle.rx_walk.specs.Refused.{refused_in}
use Rattle.rx_walk.specs.Settings.{Setting, way_of}
use Rattle.rx_walk.specs.Accepting.{accepts_at}

-- the page's elements as they are read, the names in force, the fault that was answered, and want of memory
abbrev pub Checked : Type 0
Checked = Read CheckingListener

-- The check stands for these bytes of a page: none of its start tags is refused, and nothing is due.
abbrev pub CheckStands : Setting → Checked → List ℕ → Type 0
CheckStands setting check bytes = readings.ReadingStands (way_of setting) (accepts_at setting) check bytes

-- Between two tokens a piece without `<` and `&` wants no memory.
abbrev pub ChecksQuietly : Checked → List ℕ → Result (Unit {0}) Stop → Type 0
ChecksQuietly check piece result =
    (setting : Setting) (bytes : List ℕ) → CheckStands setting check bytes
    → IsBetween setting.syntax setting.limits bytes → is_quiet piece ≡ true → IsNoMemory result ≡ false

abbrev pub CheckFeedGives : Setting → List ℕ → List ℕ → Result (Unit {0}) Stop → Checked → Type 0
CheckFeedGives setting bytes piece result new = readings.FeedGives (way_of setting) (accepts_at setting) bytes piece result new

-- The bytes are a page of which no start tag is refused.
pub record Accepted (setting : Setting) (bytes : List ℕ) : Type 0 where
  pub tree : Tree
  pub page : Page setting.syntax setting.limits bytes tree
  pub accepted : refused_in setting.context [] (signs_of tree) ≡ None

abbrev pub CheckEndGives : Setting → List ℕ → Result (Unit {0}) Stop → Type 0
CheckEndGives setting bytes (Ok done) = Accepted setting bytes
CheckEndGives setting bytes (Err why) = EndsWithinPage (way_of setting) bytes why
