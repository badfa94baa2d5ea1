-- What a walk stands for, and what its calls answer of a page's bytes.
use Rattle.std.specs.Prelude.{◌≡◌, ◌≢◌, ◌↔◌, is_some, ◌≤◌, ◌||◌, ◌==◌, ℕ, true, false, List, [], map, length, Option, Some, None, Result, Ok, Err, if◌then◌else◌}
use Rattle.rx_rdfa.specs.Common.{Chars, triples_seen, Page, StartTag, Tree, end, element, base_of, with_facts, Context, ElementTag, Stop, read_tag, tags_of}
use Rattle.rx_grammar.specs.Common.{Line, Phase, PlacedCharacter}
use Rattle.rx_terms.specs.declared.triples.Triple.{Triple as CodeTriple}
use Rattle.rx_scan.specs.Entries.{IsNoMemory}
use Rattle.rx_scan.specs.Steps.{is_quiet}
use Rattle.rx_pages.specs.Fronts.{IsUnderway}
use Rattle.rx_nest.specs.Nests.{IsBetween}
use Rattle.rx_nest.specs.Signs.{signs_of}
use Rattle.rx_nest.specs.ShownLines.{shown_line}
use Rattle.rx_nest.specs.Readings as readings
use Rattle.rx_nest.specs.Readings.{EndsWithinPage, Read, has_failed}
use Rattle.rx_eval.specs.Numbering.{Numbering}
use Rattle.rx_eval.specs.Standing.{Makes}
use Rattle.rx_eval.specs.Keeping.{gathers_some}
use Rattle.rx_eval.specs.Opened.{handed_on}
use Rattle.rx_eval.specs.States.{State}
use Rattle.rx_eval.specs.Waits.{ShowsContext}
use Rattle.rx_eval.specs.declared.inherited.Inherited.{Inherited}
use Rattle.rx_walk.specs.declared.courses.RdfaListener.{RdfaListener}
use Rattle.rx_walk.specs.declared.stages.Stage.{Stage}
use Rattle.rx_walk.specs.declared.stages.Stage.TheVariants as stage
use Rattle.rx_base.specs.KnownBases.{IsKnownOver}
use Rattle.rx_walk.specs.CallsOf.{calls_of}
use Rattle.rx_walk.specs.Refused.{refused_in}
use Rattle.rx_walk.specs.Settings.{Setting, way_of}
use Rattle.rx_walk.specs.Leading.{Led}
use Rattle.rx_walk.specs.Courses.{CourseStands, runs_at}

-- the page's elements as they are read, what is known of them, the fault that was answered, and want of memory
abbrev pub Walked : Type 0
Walked = Read RdfaListener

abbrev pub found_state : Stage → Option State
found_state (stage.Seeking head) = None
found_state (stage.Found state) = Some state

-- The walk stands for these bytes of the page at an address: its elements were told, and nothing is due.
abbrev pub WalkStands : Setting → Chars → Walked → List ℕ → Type 0
WalkStands setting address walk bytes = readings.ReadingStands (way_of setting) (runs_at (setting, address)) walk bytes

-- what holds of a walk wherever it stands for some bytes of a page
abbrev pub WhereStands : Walked → (Setting → Chars → List ℕ → Type 0) → Type 0
WhereStands walk holds = (setting : Setting) (address : Chars) (bytes : List ℕ) → WalkStands setting address walk bytes → holds setting address bytes

-- what holds of the open elements that the tree shows, as RDFa reads them, the innermost first
abbrev pub OverOpen : Setting → List ℕ → (List ElementTag → Type 0) → Type 0
OverOpen setting bytes holds = (line : Line) (phase : Phase) (run : List PlacedCharacter) (part : List ℕ)
    → IsUnderway setting.syntax setting.limits bytes line phase run part → holds (map read_tag (shown_line setting.syntax line))

-- so many frames are open as there are such elements, once the evaluator is at work
abbrev pub FramesFit : Walked → List ElementTag → Type 0
FramesFit walk line = (state : State) → found_state walk.listener.stage ≡ Some state → length state.frames ≡ length line

-- that many elements are open, by the grammar and in the evaluator
abbrev pub DepthGives : Walked → ℕ → Type 0
DepthGives walk depth =
    WhereStands walk (λ setting address bytes. OverOpen setting bytes (λ line. (depth ≡ length line) × FramesFit walk line))

-- a bound that the line of open elements gives
abbrev pub IsBoundedBy : Walked → (List ElementTag → ℕ) → ℕ → Type 0
IsBoundedBy walk most count = WhereStands walk (λ setting address bytes. OverOpen setting bytes (λ line. count ≤ most line))

-- Between two tokens a piece without `<` and `&` wants no memory, where the base is known and no open element gathers its
-- text.
abbrev pub TakesQuietly : Walked → List ℕ → Result (Unit {0}) Stop → Type 0
TakesQuietly walk piece result =
    (setting : Setting) (address : Chars) (bytes : List ℕ) → WalkStands setting address walk bytes
    → IsBetween setting.syntax setting.limits bytes → is_quiet piece ≡ true
    → (state : State) → found_state walk.listener.stage ≡ Some state → gathers_some state.frames ≡ false
    → IsNoMemory result ≡ false

abbrev pub WalkFeedGives : Setting → Chars → List ℕ → List ℕ → Result (Unit {0}) Stop → Walked → Type 0
WalkFeedGives setting address bytes piece result new = readings.FeedGives (way_of setting) (runs_at (setting, address)) bytes piece result new

-- the list is what an evaluator has after the calls for a whole page
pub record Lists (context : Context) (address : Chars) (levels : ℕ) (tree : Tree) (list : List CodeTriple) : Type 0 where
  pub state : State
  pub led : Led (base_of (tags_of tree) address) levels (calls_of context [] (signs_of tree)) state
  pub ended : state.ended ≡ true
  pub list_is : triples_seen list ≡ state.out

-- the list of whatever page the course stands for
abbrev pub ListsPage : RdfaListener → List CodeTriple → Type 0
ListsPage course list =
    (context : Context) (address : Chars) (levels : ℕ) (root : StartTag) (inside : Tree)
    → CourseStands context address levels course (signs_of (element root inside end))
    → Lists context address levels (element root inside end) list

-- the course stands for a whole page
pub record CourseIsWhole (course : RdfaListener) : Type 0 where
  pub context : Context
  pub address : Chars
  pub levels : ℕ
  pub root : StartTag
  pub inside : Tree
  pub runs : CourseStands context address levels course (signs_of (element root inside end))

-- under some numbering, one to one, the list is what RDFa's rules make of the tree
pub record IsMade (context : Context) (address : Chars) (tree : Tree) (list : List CodeTriple) : Type 0 where
  pub to : Numbering
  pub makes : Makes to (base_of (tags_of tree) address) (with_facts context [] (tags_of tree)) (triples_seen list)

-- The bytes are a page of which nothing is refused, and the list is what an evaluator with the page's base has after the
-- calls for its tree.
pub record WalkEnded (setting : Setting) (address : Chars) (bytes : List ℕ) (list : List CodeTriple) : Type 0 where
  pub tree : Tree
  pub page : Page setting.syntax setting.limits bytes tree
  pub accepted : refused_in setting.context [] (signs_of tree) ≡ None
  pub lists : Lists setting.context address setting.limits.depth tree list
  pub made : IsMade setting.context address tree list

abbrev pub WalkEndGives : Setting → Chars → List ℕ → Result (List CodeTriple) Stop → Type 0
WalkEndGives setting address bytes (Ok list) = WalkEnded setting address bytes list
WalkEndGives setting address bytes (Err why) = EndsWithinPage (way_of setting) bytes why

-- the evaluator's state, where an element is open in it
abbrev pub state_open : Walked → Option State
state_open walk = if has_failed walk || walk.listener.count == 0 then None else found_state walk.listener.stage

-- what is shown is what a child of the innermost open element inherits
abbrev pub ShowsOpen : Walked → Inherited → Type 0
ShowsOpen walk shown = (state : State) × (state_open walk ≡ Some state) × ShowsContext shown (handed_on state.page state.frames)

-- the base of the page that begins with the bytes is known, by the bytes alone
pub record HasBase (setting : Setting) (bytes : List ℕ) : Type 0 where
  pub href : Option Chars
  pub known : IsKnownOver setting.syntax setting.limits bytes href

-- Nothing is shown where the walk has failed; else something is exactly where an element is open and the page's base is known.
pub record ShowsOnceKnown (walk : Walked) (shown : Option Inherited) : Type 0 where
  pub failed : has_failed walk ≡ true → is_some shown ≡ false
  pub line : WhereStands walk (λ setting address bytes. OverOpen setting bytes (λ line. (is_some shown ≡ true) ↔ ((line ≢ []) × HasBase setting bytes)))
