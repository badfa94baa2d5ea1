-- Reading what a job names.
use Rattle.std.specs.Prelude.{◌≡◌, ℕ, ◌+◌, List, [], Option, Some, None, encode_utf8_all}
use Rattle.rx_ports.specs.Files.{file_of}
use Rattle.rx_ports.specs.Shelves.{ShelfContent}
use Rattle.rx_rdfa.specs.Common.{Context, Fault}
use Rattle.rx_job.specs.Words.{Asked, Task}
use Rattle.rx_command.specs.Reading.{IsClean}
use Rattle.rx_command.specs.Contexts.{ContextHolds, context_size, context_count}
use Rattle.rx_page.specs.Tasks.{TaskGives, TaskDenotes, TaskRefuses, way_in}
use Rattle.rx_command.specs.Outcome.{ReadsAtMost}
use Rattle.rx_page.specs.Written.{output_text, Denoted}
use Rattle.rx_page.specs.declared.outcomes.Outcome.{Outcome}

-- the page of this name is there, and what it gives has the text that the task makes of it; it was read to its end
pub record GivesPage (task : Task) (context : Context) (name : List ℕ) (outcome : Outcome) (old new : ShelfContent) : Type 0 where
  pub bytes : List ℕ
  pub file : file_of old.files name ≡ Some bytes
  pub gives : TaskGives task context bytes (output_text outcome)
  pub graph : Denoted outcome → TaskDenotes task context bytes (output_text outcome)
  pub left : new.left ≡ []

-- .. and was started once
pub record PageText (task : Task) (context : Context) (name : List ℕ) (outcome : Outcome) (old new : ShelfContent) : Type 0 where
  pub page : GivesPage task context name outcome old new
  pub starts : new.starts ≡ old.starts + 1

-- it is there, and the task refuses it with this fault, past which no more than a piece was read
pub record PageRefused (task : Task) (context : Context) (name : List ℕ) (fault : Fault) (old new : ShelfContent) : Type 0 where
  pub bytes : List ℕ
  pub file : file_of old.files name ≡ Some bytes
  pub refused : TaskRefuses task context bytes fault
  pub reads : ReadsAtMost task fault old.taken new.taken

-- a context holds, and under it the page gives this; the context file, where one is named, was started once, and so was the page
pub record JobText (asked : Asked) (outcome : Outcome) (old new : ShelfContent) : Type 0 where
  pub context : Context
  pub holds : ContextHolds asked.context old context
  pub page : GivesPage asked.task context (encode_utf8_all asked.page) outcome old new
  pub starts : new.starts ≡ old.starts + (context_count asked.context + 1)

-- or this fault
pub record JobRefused (asked : Asked) (fault : Fault) (old new : ShelfContent) : Type 0 where
  pub context : Context
  pub holds : ContextHolds asked.context old context
  pub bytes : List ℕ
  pub file : file_of old.files (encode_utf8_all asked.page) ≡ Some bytes
  pub refused : TaskRefuses asked.task context bytes fault
  pub reads : ReadsAtMost asked.task fault (old.taken + context_size asked.context old) new.taken

-- A read that failed: whatever context holds, the bytes that were read of the page hold no fault but that they end.
abbrev pub StopsClean : Asked → List ℕ → ℕ → ShelfContent → ShelfContent → Type 0
StopsClean asked name before old new =
    (context : Context) → ContextHolds asked.context old context → (file : List ℕ) → file_of old.files name ≡ Some file
    → IsClean (way_in asked.task context) file before new.taken

-- the shelf tells its files, and this holds of them
abbrev pub TellsThat : (ShelfContent → Type 0) → Option ShelfContent → Type 0
TellsThat holds None = ⊥
TellsThat holds (Some shelf) = holds shelf

-- where the shelf tells its files, this holds of them
abbrev pub WhereTold : (ShelfContent → Type 0) → Option ShelfContent → Type 0
WhereTold holds None = Unit {0}
WhereTold holds (Some shelf) = holds shelf
