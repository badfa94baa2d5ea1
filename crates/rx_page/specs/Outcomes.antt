-- The one outcome of a page.
use Rattle.std.specs.Prelude.{◌≡◌, ◌⊎◌, ℕ, Bool, true, not, List}
use Rattle.rx_rdfa.specs.Common.{Context, Fault, is_of_meaning, Kind, Tree, Page}
use Rattle.rx_microdata.specs.Json.{Given, outcome}
use Rattle.rx_microdata.specs.Visits.{standard_bounds}
use Rattle.serde_json.specs.Data.{Data}
use Rattle.rx_job.specs.Words.{Task, Itemization, extracts, itemizes, checks}
use Rattle.rx_page.specs.Tasks.{IsAccepted, TaskGives, TaskDenotes, TaskRefuses, is_of_items}
use Rattle.rx_page.specs.Settings.{standard_limits}

-- the bytes are a page with this tree, and none of its items is refused
pub record HasItemTree (i : Itemization) (bytes : List ℕ) (tree : Tree) : Type 0 where
  pub page : Page i.syntax standard_limits bytes tree
  pub value : Data
  pub given : outcome standard_bounds i.address tree ≡ Given value

-- the bytes are a page with this tree, in which the task refuses nothing
abbrev pub TaskAccepts : Task → Context → List ℕ → Tree → Type 0
TaskAccepts (extracts e) context bytes tree = IsAccepted e.syntax context bytes tree
TaskAccepts (itemizes i) context bytes tree = HasItemTree i bytes tree
TaskAccepts (checks syntax) context bytes tree = IsAccepted syntax context bytes tree

-- The kinds for which a task refuses a page: those of its form, and beside them those of RDFa, or those of items.
abbrev pub may_refuse : Task → Kind → Bool
may_refuse (extracts e) kind = not (is_of_items kind)
may_refuse (itemizes i) kind = not (is_of_meaning kind)
may_refuse (checks syntax) kind = not (is_of_items kind)

-- the task accepts the bytes with this tree and no other, and finds no fault
pub record IsTheTree (task : Task) (context : Context) (bytes : List ℕ) (tree : Tree) : Type 0 where
  pub accepted : TaskAccepts task context bytes tree
  pub alone : (other : Tree) → TaskAccepts task context bytes other → other ≡ tree
  pub faultless : (fault : Fault) → TaskRefuses task context bytes fault → ⊥

-- the task refuses the bytes with this fault and no other, and accepts them with no tree
pub record IsTheFault (task : Task) (context : Context) (bytes : List ℕ) (fault : Fault) : Type 0 where
  pub refused : TaskRefuses task context bytes fault
  pub alone : (other : Fault) → TaskRefuses task context bytes other → other ≡ fault
  pub treeless : (tree : Tree) → TaskAccepts task context bytes tree → ⊥
  pub kind : may_refuse task fault.kind ≡ true

-- law: whatever the bytes, a task has under a context one tree of them or one fault
abbrev pub OneOutcome : Type 0
OneOutcome = (task : Task) (context : Context) (bytes : List ℕ)
    → ((tree : Tree) × IsTheTree task context bytes tree) ⊎ ((fault : Fault) × IsTheFault task context bytes fault)

-- the text is what the task makes of the bytes, which have one tree, and no other text is; and it denotes that tree's graph
pub record IsTheText (task : Task) (context : Context) (bytes text : List ℕ) : Type 0 where
  pub tree : Tree
  pub is : IsTheTree task context bytes tree
  pub gives : TaskGives task context bytes text
  pub alone : (other : List ℕ) → TaskGives task context bytes other → other ≡ text
  pub denotes : TaskDenotes task context bytes text
