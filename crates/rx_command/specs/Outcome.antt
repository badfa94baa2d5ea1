-- What comes of a page: a text, or a refusal.
use Rattle.std.specs.Prelude.{◌≡◌, ◌⊎◌, ◌+◌, ◌≤◌, ℕ, false, List, [], ◌∷◌, encode_utf8_all, Option, Some, None}
use Rattle.rx_ports.specs.Shelves.{ShelfContent}
use Rattle.rx_ports.specs.Files.{file_of}
use Rattle.rx_rdfa.specs.Common.{Chars, Context, Fault}
use Rattle.rx_job.specs.Words.{Job, Asked, Task, Gathering, Listed, reads, gathers, samples, extracts, itemizes, checks, job, page_asked}
use Rattle.rx_command.specs.Contexts.{ContextHolds, HasContext, HasWrongContext, LacksContext, context_in}
use Rattle.rx_command.specs.Reading.{largest_piece}
use Rattle.rx_page.specs.Tasks.{TaskGives, TaskDenotes, TaskRefuses, is_of_items}

-- no more was read than a piece past the byte that decides the fault, where that isn't an item's
abbrev pub ReadsAtMost : Task → Fault → ℕ → ℕ → Type 0
ReadsAtMost (extracts e) fault before now = now ≤ before + (fault.at + largest_piece)
ReadsAtMost (itemizes i) fault before now = is_of_items fault.kind ≡ false → now ≤ before + (fault.at + largest_piece)
ReadsAtMost (checks syntax) fault before now = now ≤ before + (fault.at + largest_piece)

-- the words name a page, the shelf tells its files, this context holds, and the page has these bytes
pub record NamesPage (words : List Chars) (told : Option ShelfContent) (bytes : List ℕ) : Type 0 where
  pub asked : Asked
  pub shelf : ShelfContent
  pub context : Context
  pub asks : page_asked words ≡ Some asked
  pub tells : told ≡ Some shelf
  pub holds : ContextHolds asked.context shelf context
  pub file : file_of shelf.files (encode_utf8_all asked.page) ≡ Some bytes

-- the page has this text
pub record HasPageText (words : List Chars) (told : Option ShelfContent) (text : List ℕ) : Type 0 where
  pub bytes : List ℕ
  pub page : NamesPage words told bytes
  pub has_text : TaskGives page.asked.task page.context bytes text

-- this text denotes exactly the page's graph
pub record HasPageGraph (words : List Chars) (told : Option ShelfContent) (text : List ℕ) : Type 0 where
  pub bytes : List ℕ
  pub page : NamesPage words told bytes
  pub graph : TaskDenotes page.asked.task page.context bytes text

-- the page has this fault
pub record HasPageFault (words : List Chars) (told : Option ShelfContent) (fault : Fault) : Type 0 where
  pub bytes : List ℕ
  pub page : NamesPage words told bytes
  pub refused : TaskRefuses page.asked.task page.context bytes fault

-- the shelf tells its files, and this holds of them and of what the words ask for
pub record Meets (fact : Option Job → ShelfContent → Type 0) (words : List Chars) (told : Option ShelfContent) : Type 0 where
  pub shelf : ShelfContent
  pub tells : told ≡ Some shelf
  pub holds : fact (job words) shelf

-- the context file is missing, or the page is, where the context is one
abbrev pub IsLacking : Asked → ShelfContent → Type 0
IsLacking asked shelf = LacksContext asked.context shelf ⊎ (HasContext asked.context shelf × (file_of shelf.files (encode_utf8_all asked.page) ≡ None))

-- one of the listed pages is missing
abbrev pub LacksPage : List (List ℕ × List ℕ) → List Listed → Type 0
LacksPage files [] = ⊥
LacksPage files (listed ∷ more) = (file_of files (encode_utf8_all listed.page) ≡ None) ⊎ LacksPage files more

-- the context file is missing, or a page is, where the context is one
abbrev pub LacksOne : Gathering → ShelfContent → Type 0
LacksOne gathering shelf = LacksContext gathering.context shelf ⊎ (HasContext gathering.context shelf × LacksPage shelf.files gathering.pages)

abbrev pub JobLacks : Option Job → ShelfContent → Type 0
JobLacks None shelf = ⊥
JobLacks (Some (reads asked)) shelf = IsLacking asked shelf
JobLacks (Some (gathers gathering)) shelf = LacksOne gathering shelf
JobLacks (Some (samples count)) shelf = ⊥

-- there is no outcome: a file that is named is missing
abbrev pub LacksFile : List Chars → Option ShelfContent → Type 0
LacksFile words told = Meets JobLacks words told

-- there is no outcome: the context file that is named is there and is no context
abbrev pub HasBadContext : List Chars → Option ShelfContent → Type 0
HasBadContext words told = Meets (λ asked shelf. HasWrongContext (context_in asked) shelf) words told
