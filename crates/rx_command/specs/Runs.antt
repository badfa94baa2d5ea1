-- How a run ends.
use Rattle.std.specs.Prelude.{◌≡◌, ◌⊎◌, ℕ, ◌+◌, ◌≤◌, Bool, true, false, List, [], ◌++◌, length, Option, Some, None, is_some, encode_utf8_all, codes}
use Rattle.std.specs.Fmt.{decimal}
use Rattle.rx_ports.specs.Counts.{Rose}
use Rattle.rx_ports.specs.Files.{file_of}
use Rattle.rx_ports.specs.Shelves.{ShelfContent, WhereKnown, GrowsBy, GrowsByPart, Stays}
use Rattle.rx_rdfa.specs.Common.{Chars, Fault}
use Rattle.rx_job.specs.Words.{Job, Asked, Gathering, reads, gathers, samples, job, page_in}
use Rattle.rx_command.specs.Files.{size_of}
use Rattle.rx_command.specs.Contexts.{HasWrongContext, TakesContext, context_size, context_limit, context_count}
use Rattle.rx_command.specs.Outcome.{LacksFile, LacksOne, ReadsAtMost}
use Rattle.rx_command.specs.Gathering.{IsGathered, DenotesGathered, TakesGathering}
use Rattle.rx_command.specs.Inputs.{StopsClean, TellsThat, WhereTold}
use Rattle.rx_command.specs.Samples.{IsSample}
use Rattle.rx_command.specs.Reading.{page_limit}
use Rattle.rx_command.specs.declared.statuses.Status.{Status}
use Rattle.rx_command.specs.declared.statuses.Status.TheVariants as status

-- the number that the process ends with
abbrev pub code_of : Status → ℕ
code_of status.Done = 0
code_of (status.Refused fault) = 1
code_of status.Usage = 2
code_of status.ReadFault = 3
code_of status.WriteFault = 4
code_of status.Memory = 5
code_of status.BadContext = 6

-- the run ends so, or there was no memory
abbrev pub EndsSo : Status → Status → Type 0
EndsSo result s = (result ≡ s) ⊎ (result ≡ status.Memory)

-- this holds where the shelf tells its files
abbrev pub IfTold : Option ShelfContent → Type 0 → Type 0
IfTold told holds = (content : ShelfContent) → told ≡ Some content → holds

-- there is a text then of which this holds, and what a sink holds became another with it
abbrev pub WritesToSink : Option ShelfContent → (List ℕ → Type 0) → (List ℕ → List ℕ → List ℕ → Type 0) → Option (List ℕ) → Option (List ℕ) → Type 0
WritesToSink told is grows old new = (content : ShelfContent) → told ≡ Some content → (text : List ℕ) × is text × WhereKnown (grows text) old new

-- this holds of the fault for which the page is refused
abbrev pub WhereRefused : Status → (Fault → Type 0) → Type 0
WhereRefused result holds = (fault : Fault) → result ≡ status.Refused fault → holds fault

-- this holds of the number of items, where a sample is asked for
abbrev pub WhereSample : Option Job → (ℕ → Type 0) → Type 0
WhereSample asked holds = (count : ℕ) → asked ≡ Some (samples count) → holds count

-- what is asked for reads files
abbrev pub reads_files : Option Job → Bool
reads_files None = false
reads_files (Some (reads asked)) = true
reads_files (Some (gathers gathering)) = true
reads_files (Some (samples count)) = false

-- a page was asked for, or several, and the shelf's count of faults rose, or it tells its files and lacks one that is named
pub record ReadCause (words : List Chars) (told : Option ShelfContent) (before now : ℕ) : Type 0 where
  pub asks : reads_files (job words) ≡ true
  pub cause : Rose before now ⊎ LacksFile words told

-- how much the files have that are named, and how much of them is read at most
abbrev pub named_size : Option Asked → ShelfContent → ℕ
named_size None told = 0
named_size (Some asked) told = context_size asked.context told + size_of (file_of told.files (encode_utf8_all asked.page))

abbrev pub named_limit : Option Asked → ℕ
named_limit None = 0
named_limit (Some asked) = context_limit asked.context + page_limit

-- how many files are named
abbrev pub named_count : Option Asked → ℕ
named_count None = 0
named_count (Some asked) = context_count asked.context + 1

-- no more was taken than the files have that are named, nor more than the limit of the page and, where a context file
-- is named, one byte past the largest of these; and no more files were started than are named
pub record TakesFiles (asked : Option Asked) (old new : ShelfContent) : Type 0 where
  pub files : new.files ≡ old.files
  pub size : new.taken ≤ old.taken + named_size asked old
  pub most : new.taken ≤ old.taken + named_limit asked
  pub starts : new.starts ≤ old.starts + named_count asked

-- how much is taken for what is asked for
abbrev pub TakesJob : Option Job → ShelfContent → ShelfContent → Type 0
TakesJob None old new = TakesFiles None old new
TakesJob (Some (reads asked)) old new = TakesFiles (Some asked) old new
TakesJob (Some (gathers gathering)) old new = TakesGathering gathering old new
TakesJob (Some (samples count)) old new = TakesFiles None old new

-- how many files what is asked for names: the context file, where one is named, and the page, or each of the listed pages
abbrev pub files_named : Option Job → ℕ
files_named None = 0
files_named (Some (reads asked)) = context_count asked.context + 1
files_named (Some (gathers gathering)) = context_count gathering.context + length gathering.pages
files_named (Some (samples count)) = 0

-- the page that alone is asked for was read to its end
abbrev pub IsAtEnd : Option Asked → ShelfContent → Type 0
IsAtEnd None shelf = Unit {0}
IsAtEnd (Some asked) shelf = shelf.left ≡ []

-- so many files were started as are named, and the page that alone is asked for was read to its end
pub record ReadsAll (asked : Option Job) (old new : ShelfContent) : Type 0 where
  pub starts : new.starts ≡ old.starts + files_named asked
  pub left : IsAtEnd (page_in asked) new

abbrev pub usage_line : List ℕ
usage_line = codes "usage: rdfax extract|items|check|sample\n"

abbrev pub context_line : List ℕ
context_line = codes "refused: context file\n"

-- the words of a refusal: the kind of the fault, its byte and its token
abbrev pub refused_with : List ℕ → ℕ → ℕ → List ℕ
refused_with kind at token =
    codes "refused: " ++ (kind ++ (codes " at byte " ++ (decimal at ++ (codes " in token " ++ (decimal token ++ codes "\n")))))

-- the line was written, or a front of it, where the sink failed
abbrev pub Says : List ℕ → Option (List ℕ) → Option (List ℕ) → ℕ → ℕ → Type 0
Says line old new before now = WhereKnown (GrowsBy line) old new ⊎ (Rose before now × WhereKnown (GrowsByPart line) old new)

-- nothing was said, and no writing of it failed
abbrev pub SaysNothing : Option (List ℕ) → Option (List ℕ) → ℕ → ℕ → Type 0
SaysNothing old new before now = WhereKnown Stays old new × (now ≡ before)

-- how a sample of so many items ends: its line was written, or a front of it, where out failed; or there was no memory
abbrev pub SampleEnds : ℕ → Status → Option (List ℕ) → Option (List ℕ) → ℕ → ℕ → Type 0
SampleEnds count status.Done old new before now = (line : List ℕ) × IsSample count line × WhereKnown (GrowsBy line) old new
SampleEnds count status.WriteFault old new before now = (line : List ℕ) × IsSample count line × WhereKnown (GrowsByPart line) old new × Rose before now
SampleEnds count status.Memory old new before now = WhereKnown Stays old new
SampleEnds count (status.Refused fault) old new before now = ⊥
SampleEnds count status.Usage old new before now = ⊥
SampleEnds count status.ReadFault old new before now = ⊥
SampleEnds count status.BadContext old new before now = ⊥

-- what the shelf, out and err tell, and their counts of faults
pub record Devices : Type 0 where
  pub told : Option ShelfContent
  pub read_faults : ℕ
  pub held : Option (List ℕ)
  pub write_faults : ℕ
  pub said : Option (List ℕ)
  pub say_faults : ℕ

-- so many files were started as are named
abbrev pub StartsEach : Gathering → ShelfContent → ShelfContent → Type 0
StartsEach gathering old new = new.starts ≡ old.starts + (context_count gathering.context + length gathering.pages)

-- how a job of several pages ends: their document was written, or a front of it, where out failed; or nothing was, since the
-- shelf failed or lacks a file, the context file is no context, or there was no memory
abbrev pub EndsAs : Gathering → Status → Devices → Devices → Type 0
EndsAs gathering status.Done old new =
    (text : List ℕ) × WhereTold (IsGathered gathering text) old.told × WhereTold (DenotesGathered gathering text) old.told
    × WhereKnown (GrowsBy text) old.held new.held × WhereKnown (StartsEach gathering) old.told new.told
EndsAs gathering status.WriteFault old new =
    (text : List ℕ) × WhereTold (IsGathered gathering text) old.told × WhereKnown (GrowsByPart text) old.held new.held × Rose old.write_faults new.write_faults
EndsAs gathering status.ReadFault old new = (Rose old.read_faults new.read_faults ⊎ TellsThat (LacksOne gathering) old.told) × WhereKnown Stays old.held new.held
EndsAs gathering status.BadContext old new =
    (is_some gathering.context ≡ true) × WhereTold (HasWrongContext gathering.context) old.told
    × WhereKnown (TakesContext gathering.context) old.told new.told × WhereKnown Stays old.held new.held
EndsAs gathering status.Memory old new = WhereKnown Stays old.held new.held
EndsAs gathering (status.Refused fault) old new = ⊥
EndsAs gathering status.Usage old new = ⊥

-- what is said then: a line where the context file is no context, and else nothing
abbrev pub SaysAs : Status → Devices → Devices → Type 0
SaysAs status.BadContext old new = Says context_line old.said new.said old.say_faults new.say_faults
SaysAs s old new = SaysNothing old.said new.said old.say_faults new.say_faults

pub record GatheringEnds (gathering : Gathering) (s : Status) (old new : Devices) : Type 0 where
  pub ends : EndsAs gathering s old new
  pub takes : WhereKnown (TakesGathering gathering) old.told new.told
  pub says : SaysAs s old new

-- a page that is refused was read no further than a piece past the byte that decides the fault, where that isn't an item's
abbrev pub TakesToFault : Option Asked → Fault → ShelfContent → ShelfContent → Type 0
TakesToFault None fault old new = Unit {0}
TakesToFault (Some asked) fault old new = ReadsAtMost asked.task fault (old.taken + context_size asked.context old) new.taken

-- where the page is there, what was read of it behind the context file holds no fault but that it ends
abbrev pub StopsCleanly : Option Asked → ShelfContent → ShelfContent → Type 0
StopsCleanly None old new = Unit {0}
StopsCleanly (Some asked) old new = StopsClean asked (encode_utf8_all asked.page) (old.taken + context_size asked.context old) old new
