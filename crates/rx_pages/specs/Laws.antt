-- What holds of the tables.
use Rattle.std.specs.Prelude.{◌≡◌, ◌≢◌, ◌↔◌, ℕ, ◌+◌, ◌≤◌, take, List, [], ◌∷◌, ◌++◌, Option, None, Ok, Err}
use Rattle.rx_grammar.specs.Common.{Chars, Syntax, Token, Spells, PlacedCharacter, Item, Spelled, Tree, Page, Unfinished, Faulty, Reached, FaultAt, Line, inside_of, Phase, after, Stands, Begun}
use Rattle.rx_grammar.specs.declared.contents.Content.{Content}
use Rattle.rx_grammar.specs.declared.limits.Limits.{Limits}
use Rattle.rx_grammar.specs.declared.faults.Fault.{Fault}
use Rattle.rx_grammar.specs.declared.faults.Kind.{Kind}
use Rattle.rx_grammar.specs.declared.faults.Kind.TheVariants.{Unended}
use Rattle.rx_pages.specs.Nesting.{Event, Nesting, not_begun, Goes, IsAt, told_trees}
use Rattle.rx_pages.specs.Scanner.{CharactersGoOn, ReadAs}
use Rattle.rx_pages.specs.Faults.{Decides}
use Rattle.rx_pages.specs.PageReader.{Progress, page_read, page_ended}
use Rattle.rx_pages.specs.Closings.{closed, IsPage, IsPageFront, ClosedTells}

-- characters that spell a token are read as it
abbrev pub ReadsEachToken : Type 0
ReadsEachToken =
    (syntax : Syntax) (inside : Content) (text : Chars) (next : Option ℕ) (token : Token) → Spells syntax inside text next token
    → ReadAs syntax inside text next token

-- tokens that can stand at the front of a page lead to its open elements
pub record TokensLead (syntax : Syntax) (depth : ℕ) (items : List Item) (line : Line) (phase : Phase) : Type 0 where
  pub events : List Event
  pub going : Goes syntax depth (IsAt line phase) not_begun items events

abbrev pub FrontsLead : Type 0
FrontsLead =
    (syntax : Syntax) (depth : ℕ) (items : List Item) (line : Line) (phase : Phase) → Stands syntax depth items line phase → TokensLead syntax depth items line phase

-- and spelled tokens that lead to open elements can stand at the front of a page
abbrev pub FrontsStand : Type 0
FrontsStand =
    (syntax : Syntax) (depth : ℕ) (entries : List PlacedCharacter) (next : Option ℕ) (items : List Item) (line : Line) (phase : Phase) → Spelled syntax entries next items
    → TokensLead syntax depth items line phase → Stands syntax depth items line phase

-- What is left of a page behind the whole tokens of its front, and that it leads from the open elements there to the page's end.
pub record IsLeft (syntax : Syntax) (depth : ℕ) (all some : List Item) (line : Line) (phase : Phase) (run : List PlacedCharacter) : Type 0 where
  pub items : List Item
  pub entries : List PlacedCharacter
  pub are : all ≡ some ++ items
  pub spelled : Spelled syntax (run ++ entries) None items
  pub place : Nesting
  pub is_at : IsAt line phase place
  pub events : List Event
  pub going : Goes syntax depth (IsAt [] after) place items events

abbrev pub PagesGoOn : Type 0
PagesGoOn =
    (syntax : Syntax) (limits : Limits) (whole rest : List ℕ) (items : List Item) (line : Line) (phase : Phase) (run : List PlacedCharacter) (tree : Tree)
    → Reached syntax limits whole items line phase run → (page : Page syntax limits (whole ++ rest) tree)
    → IsLeft syntax limits.depth page.items items line phase run

-- A page is read to its end, and its tree is what is told.
pub record PageIsRead (syntax : Syntax) (limits : Limits) (bytes : List ℕ) (tree : Tree) : Type 0 where
  pub final : Progress
  pub is_read : page_ended (page_read syntax limits bytes) ≡ Ok final
  pub trees : told_trees final.told ≡ tree ∷ []

abbrev pub ReadsEachPage : Type 0
ReadsEachPage = (syntax : Syntax) (limits : Limits) (bytes : List ℕ) (tree : Tree) → Page syntax limits bytes tree → PageIsRead syntax limits bytes tree

-- each fault of the grammar is found
abbrev pub FindsEachFault : Type 0
FindsEachFault =
    (syntax : Syntax) (limits : Limits) (bytes : List ℕ) (fault : Fault) → FaultAt syntax limits bytes fault
    → page_ended (page_read syntax limits bytes) ≡ Err fault

-- Inside of open elements exactly the characters that begin a token, and aren't yet one, go on.
abbrev pub UnfinishedGoesOn : Type 0
UnfinishedGoesOn =
    (syntax : Syntax) (line : Line) (c : ℕ) (run : Chars)
    → Unfinished syntax (inside_of syntax line).content (c ∷ run) ↔ CharactersGoOn syntax (inside_of syntax line).content [] (c ∷ run)

-- What is read there as a token spells it.
abbrev pub SpellsEachToken : Type 0
SpellsEachToken =
    (syntax : Syntax) (line : Line) (text : Chars) (next : Option ℕ) (token : Token) → ReadAs syntax (inside_of syntax line).content text next token
    → Spells syntax (inside_of syntax line).content text next token

-- The last of the characters behind whole tokens has a fault exactly where it is decided so.
abbrev pub FaultsAreDecided : Type 0
FaultsAreDecided = (syntax : Syntax) (depth : ℕ) (items : List Item) (line : Line) (phase : Phase) (found : Kind) (chars : Chars)
    → Faulty syntax depth items line phase (inside_of syntax line).content found chars ↔ Decides syntax depth items line phase (inside_of syntax line).content found chars

-- Only pages are read to their ends, each to its tree,
pub record IsPageRead (syntax : Syntax) (limits : Limits) (bytes : List ℕ) (final : Progress) : Type 0 where
  pub tree : Tree
  pub page : Page syntax limits bytes tree
  pub trees : told_trees final.told ≡ tree ∷ []

abbrev pub ReadsOnlyPages : Type 0
ReadsOnlyPages =
    (syntax : Syntax) (limits : Limits) (bytes : List ℕ) (final : Progress) → page_ended (page_read syntax limits bytes) ≡ Ok final
    → IsPageRead syntax limits bytes final

-- and only faults of the grammar are found.
abbrev pub FindsOnlyFaults : Type 0
FindsOnlyFaults =
    (syntax : Syntax) (limits : Limits) (bytes : List ℕ) (fault : Fault) → page_ended (page_read syntax limits bytes) ≡ Err fault
    → FaultAt syntax limits bytes fault

-- Whatever follows the byte at which a fault is known, the fault stays: no page begins with the bytes through it. The page's end alone
-- decides otherwise.
abbrev pub FaultsStay : Type 0
FaultsStay =
    (syntax : Syntax) (limits : Limits) (bytes : List ℕ) (fault : Fault) → FaultAt syntax limits bytes fault → fault.kind ≢ Unended → (rest : List ℕ)
    → FaultAt syntax limits (take (fault.at + 1) bytes ++ rest) fault

-- The front of a page closes: what is open is closed from the innermost element on, and then the bytes are a page, but for the limits of
-- tag and page. An empty root needs a level.
abbrev pub FrontsClose : Type 0
FrontsClose =
    (syntax : Syntax) (limits : Limits) (bytes : List ℕ) (next : Option ℕ) (line : Line) (phase : Phase) → 1 ≤ limits.depth
    → Begun syntax limits bytes next line phase → IsPage syntax limits (closed bytes line phase)

-- What a front tells, closed it tells first; and then no more than ends, and one element without attributes.
abbrev pub FrontsTell : Type 0
FrontsTell =
    (syntax : Syntax) (limits : Limits) (bytes : List ℕ) (next : Option ℕ) (line : Line) (phase : Phase) → 1 ≤ limits.depth
    → Begun syntax limits bytes next line phase → ClosedTells syntax limits bytes line phase

-- Its open elements and its phase are one, whatever comes next.
pub record IsSamePlace (line others : Line) (phase other : Phase) : Type 0 where
  pub line_is : line ≡ others
  pub phase_is : phase ≡ other

abbrev pub OnePlace : Type 0
OnePlace = (syntax : Syntax) (limits : Limits) (bytes : List ℕ) (next behind : Option ℕ) (line others : Line) (phase other : Phase)
    → Begun syntax limits bytes next line phase → Begun syntax limits bytes behind others other → IsSamePlace line others phase other

-- What stands before the token of a fault is such a front.
abbrev pub FaultsFollowFronts : Type 0
FaultsFollowFronts =
    (syntax : Syntax) (limits : Limits) (bytes : List ℕ) (fault : Fault) → FaultAt syntax limits bytes fault → IsPageFront syntax limits (take fault.token bytes)
