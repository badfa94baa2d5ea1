-- The one answer that a run gives, whatever its words are and whatever files there are, and how a run ends.
use Rattle.std.specs.Prelude.{◌≡◌, ℕ, List, [], Option, Some, None, encode_utf8_all}
use Rattle.rx_ports.specs.Counts.{Rose}
use Rattle.rx_ports.specs.Files.{file_of}
use Rattle.rx_ports.specs.Shelves.{ShelfContent, WhereKnown, GrowsBy, GrowsByPart, Stays}
use Rattle.rx_rdfa.specs.Common.{Chars, Context, Fault}
use Rattle.rx_job.specs.Words.{Job, Asked, Gathering, reads, gathers, samples, job}
use Rattle.rx_page.specs.Tasks.{TaskGives}
use Rattle.rx_page.specs.Outcomes.{IsTheFault, IsTheText}
use Rattle.rx_command.specs.Contexts.{ContextHolds, HasWrongContext}
use Rattle.rx_command.specs.Outcome.{IsLacking, LacksOne, LacksFile, HasBadContext, HasPageFault}
use Rattle.rx_command.specs.Gathering.{IsGathered, DenotesGathered, HasAll}
use Rattle.rx_command.specs.Samples.{IsSample, Yields, YieldsBoth}
use Rattle.rx_command.specs.Runs.{TakesJob, ReadsAll, Devices, EndsSo, IfTold, WritesToSink, WhereRefused, Says, usage_line, context_line}
use Rattle.rx_command.specs.declared.statuses.Status.{Status}
use Rattle.rx_command.specs.declared.statuses.Status.TheVariants as status
use Rattle.rx_grammar.specs.Kinds.{refused_line}

-- The page that is asked for is there, a context holds, and this holds of the context and of the page's bytes.
pub record OfPage (asked : Asked) (shelf : ShelfContent) (holds : Context → List ℕ → Type 0) : Type 0 where
  pub context : Context
  pub bytes : List ℕ
  pub is_context : ContextHolds asked.context shelf context
  pub file : file_of shelf.files (encode_utf8_all asked.page) ≡ Some bytes
  pub holds_so : holds context bytes

-- The answer that is right for what is asked for: the status, the text that is written, and the line that is said.
pub data IsAnswer (shelf : ShelfContent) : Option Job → Status → List ℕ → List ℕ → Type 0 where
  -- the words ask for nothing
  nothing_asked : IsAnswer shelf None status.Usage [] usage_line
  -- a sample has its line
  of_sample : (count : ℕ) (line : List ℕ) → IsSample count line → IsAnswer shelf (Some (samples count)) status.Done line []
  -- a page has one text for the task, which denotes what the task finds in its one tree
  of_page : (asked : Asked) (text : List ℕ) → OfPage asked shelf (λ context bytes. IsTheText asked.task context bytes text) → IsAnswer shelf (Some (reads asked)) status.Done text []
  -- or one fault
  of_fault : (asked : Asked) (fault : Fault) → OfPage asked shelf (λ context bytes. IsTheFault asked.task context bytes fault) → IsAnswer shelf (Some (reads asked)) (status.Refused fault) [] (refused_line fault)
  -- its context file is missing, or the page is
  no_file : (asked : Asked) → IsLacking asked shelf → IsAnswer shelf (Some (reads asked)) status.ReadFault [] []
  -- its context file is there, and is none
  no_context : (asked : Asked) → HasWrongContext asked.context shelf → IsAnswer shelf (Some (reads asked)) status.BadContext [] context_line
  -- several pages have one document, which denotes what the accepted ones give
  of_pages : (gathering : Gathering) (text : List ℕ) → IsGathered gathering text shelf → DenotesGathered gathering text shelf → IsAnswer shelf (Some (gathers gathering)) status.Done text []
  -- their context file is missing, or one of them is
  no_file_of_several : (gathering : Gathering) → LacksOne gathering shelf → IsAnswer shelf (Some (gathers gathering)) status.ReadFault [] []
  -- their context file is there, and is none
  no_context_of_several : (gathering : Gathering) → HasWrongContext gathering.context shelf → IsAnswer shelf (Some (gathers gathering)) status.BadContext [] context_line

-- the text that is to be written
abbrev pub IsDue : ShelfContent → Option Job → List ℕ → Type 0
IsDue shelf None text = ⊥
IsDue shelf (Some (reads asked)) text = OfPage asked shelf (λ context bytes. TaskGives asked.task context bytes text)
IsDue shelf (Some (gathers gathering)) text = IsGathered gathering text shelf
IsDue shelf (Some (samples count)) text = IsSample count text

-- A run gives that answer: out has grown by the text, and err by the line, or by a front of it where err failed. Or the shelf
-- failed, or out, which then holds a proper front of the text more than before; or there was no memory. Nothing else is written.
pub data EndsJob (shelf : ShelfContent) (asked : Option Job) (s : Status) (old new : Devices) : Type 0 where
  answers : (text line : List ℕ) → IsAnswer shelf asked s text line → WhereKnown (GrowsBy text) old.held new.held → Says line old.said new.said old.say_faults new.say_faults → EndsJob shelf asked s old new
  shelf_failed : s ≡ status.ReadFault → Rose old.read_faults new.read_faults → WhereKnown Stays old.held new.held → EndsJob shelf asked s old new
  out_failed : (text : List ℕ) → s ≡ status.WriteFault → Rose old.write_faults new.write_faults → IsDue shelf asked text → WhereKnown (GrowsByPart text) old.held new.held → EndsJob shelf asked s old new
  no_memory : s ≡ status.Memory → WhereKnown Stays old.held new.held → EndsJob shelf asked s old new

-- So a run ends over a shelf that tells its files. It reads no more of them than what is asked for takes, and starts no more than
-- are named; where a text was written it has read all that is asked for, having started each file once.
pub record RunEnds (words : List Chars) (s : Status) (old new : Devices) : Type 0 where
  pub gives : (shelf : ShelfContent) → old.told ≡ Some shelf → EndsJob shelf (job words) s old new
  pub reads : WhereKnown (TakesJob (job words)) old.told new.told
  pub whole : s ≡ status.Done → WhereKnown (ReadsAll (job words)) old.told new.told

-- law: two answers to the same are one
pub record IsSame (s t : Status) (text other line said : List ℕ) : Type 0 where
  pub status_is : s ≡ t
  pub text_is : text ≡ other
  pub line_is : line ≡ said

abbrev pub OneAnswer : Type 0
OneAnswer =
    (shelf : ShelfContent) (asked : Option Job) (s t : Status) (text other line said : List ℕ)
    → IsAnswer shelf asked s text line → IsAnswer shelf asked t other said → IsSame s t text other line said

-- What follows from how a run ends over a shelf that tells its files.
pub record EndingFollows (words : List Chars) (s : Status) (old new : Devices) : Type 0 where
  -- a text that was written is the outcome, and denotes what it has to; so is one of which a front was written
  pub done : s ≡ status.Done → WritesToSink old.told (YieldsBoth words old.told) GrowsBy old.held new.held
  pub partly : s ≡ status.WriteFault → WritesToSink old.told (Yields words old.told) GrowsByPart old.held new.held
  -- a page that is refused has the fault, and a context file that is refused is none
  pub refused : WhereRefused s (λ fault. IfTold old.told (HasPageFault words old.told fault))
  pub bad_context : s ≡ status.BadContext → IfTold old.told (HasBadContext words old.told)
  -- where a file is missing, where the context file is none, and where there is a text or a fault, the run says so, unless a device
  -- failed or there was no memory
  pub lacking : LacksFile words old.told → EndsSo s status.ReadFault
  pub refuses_context : HasBadContext words old.told → ¬ Rose old.read_faults new.read_faults → EndsSo s status.BadContext
  pub refuses : (fault : Fault) → HasPageFault words old.told fault → ¬ Rose old.read_faults new.read_faults → EndsSo s (status.Refused fault)
  pub completes : (text : List ℕ) → Yields words old.told text → ¬ Rose old.read_faults new.read_faults → ¬ Rose old.write_faults new.write_faults → EndsSo s status.Done
  pub completes_all : HasAll words old.told → ¬ Rose old.read_faults new.read_faults → ¬ Rose old.write_faults new.write_faults → EndsSo s status.Done

-- law
abbrev pub EndingsSay : Type 0
EndingsSay = (words : List Chars) (s : Status) (old new : Devices) (shelf : ShelfContent) → old.told ≡ Some shelf → EndsJob shelf (job words) s old new → EndingFollows words s old new
