-- What a page that is being read stands for, and what its calls answer.
use Rattle.std.specs.Prelude.{◌≡◌, ℕ, Bool, List, ◌++◌, Result, Ok, Err}
use Rattle.rx_rdfa.specs.Common.{Fault, Context, Stop, Syntax}
use Rattle.rx_grammar.specs.declared.stops.Stop.TheVariants as stop
use Rattle.rx_walk.specs.Walks as walks
use Rattle.rx_walk.specs.Checks as check
use Rattle.rx_items.specs.Walks as items
use Rattle.rx_job.specs.Words.{Extraction, Itemization, Task, extracts, itemizes, checks}
use Rattle.rx_page.specs.Outcomes.{IsTheFault}
use Rattle.rx_page.specs.Settings.{setting_for, item_setting_for}
use Rattle.rx_session.specs.Given.{GivesWanted}
use Rattle.rx_session.specs.Wants.{Want, plan_for}
use Rattle.rx_session.specs.declared.given.Given.{Given}
use Rattle.rx_session.specs.declared.outputs.Plan.{Plan}
use Rattle.rx_session.specs.declared.works.Work.{Work}
use Rattle.rx_session.specs.declared.works.Work.TheVariants as work

-- the page is read for this task under this context, and these bytes of it were taken without a fault
abbrev pub WorkStands : Task → ℕ → Bool → Context → Work → List ℕ → Type 0
WorkStands (extracts e) first singly context (work.Extracts walk plan from) bytes =
    walks.WalkStands (setting_for e.syntax context) e.address walk bytes × (plan ≡ plan_for singly e.format e.graph context) × (from ≡ first)
WorkStands (itemizes i) first singly context (work.Itemizes walk) bytes = items.ItemWalkStands (item_setting_for i.syntax i.address) walk bytes
WorkStands (checks syntax) first singly context (work.Checks v) bytes = check.CheckStands (setting_for syntax context) v bytes
WorkStands task first singly context work bytes = ⊥

abbrev pub ReadsWanted : Want → Context → Work → List ℕ → Type 0
ReadsWanted want context work bytes = WorkStands want.task want.first want.singly context work bytes

-- each page that begins with these bytes has this fault and no other, whatever follows
abbrev pub HasFaultOn : Task → Context → List ℕ → Fault → Type 0
HasFaultOn task context bytes fault = (rest : List ℕ) → IsTheFault task context (bytes ++ rest) fault

-- a piece was taken, or one of its bytes decides a fault
abbrev pub WorkTakes : Task → ℕ → Bool → Context → List ℕ → List ℕ → Result (Unit {0}) Stop → Work → Type 0
WorkTakes task first singly context bytes piece (Ok done) new = WorkStands task first singly context new (bytes ++ piece)
WorkTakes task first singly context bytes piece (Err (stop.Fault fault)) new = HasFaultOn task context (bytes ++ piece) fault
WorkTakes task first singly context bytes piece (Err stop.NoMemory) new = Unit {0}

abbrev pub WorkPieceGives : Want → Context → List ℕ → List ℕ → Result (Unit {0}) Stop → Work → Type 0
WorkPieceGives want context bytes piece result new = WorkTakes want.task want.first want.singly context bytes piece result new

-- what the task makes of the page, or the one fault that the page has
abbrev pub TaskEnds : Task → ℕ → Bool → Context → List ℕ → Result Given Stop → Type 0
TaskEnds task first singly context bytes (Ok given) = GivesWanted task first singly context bytes given
TaskEnds task first singly context bytes (Err (stop.Fault fault)) = IsTheFault task context bytes fault
TaskEnds task first singly context bytes (Err stop.NoMemory) = Unit {0}

abbrev pub WorkEndGives : Want → Context → List ℕ → Result Given Stop → Type 0
WorkEndGives want context bytes result = TaskEnds want.task want.first want.singly context bytes result

-- the same of the page that a walk for its triples has read
abbrev pub ExtractionEnds : walks.Walked → Plan → ℕ → Result Given Stop → Type 0
ExtractionEnds walk plan first result =
    (e : Extraction) (singly : Bool) (context : Context) (bytes : List ℕ) → walks.WalkStands (setting_for e.syntax context) e.address walk bytes
    → plan ≡ plan_for singly e.format e.graph context → TaskEnds (extracts e) first singly context bytes result

-- of one that a walk for its items has read
abbrev pub ItemizationEnds : items.ItemsWalked → Result Given Stop → Type 0
ItemizationEnds walk result =
    (i : Itemization) (first : ℕ) (singly : Bool) (context : Context) (bytes : List ℕ) → items.ItemWalkStands (item_setting_for i.syntax i.address) walk bytes
    → TaskEnds (itemizes i) first singly context bytes result

-- of one that a check has read
abbrev pub CheckEnds : check.Checked → Result Given Stop → Type 0
CheckEnds v result =
    (syntax : Syntax) (first : ℕ) (singly : Bool) (context : Context) (bytes : List ℕ) → check.CheckStands (setting_for syntax context) v bytes
    → TaskEnds (checks syntax) first singly context bytes result
