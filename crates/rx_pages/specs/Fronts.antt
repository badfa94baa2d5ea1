-- What the reader has come to behind some bytes of a page, by the grammar alone.
use Rattle.std.specs.Prelude.{◌≡◌, ◌↔◌, ℕ, ◌≤◌, List, [], ◌++◌, length, take, None, Ok}
use Rattle.rx_grammar.specs.Common.{PlacedCharacter, Syntax, values, next_of, Item, Line, inside_of, Phase, Begun, Reached, IsPending, IsPart, IsShort, token_of}
use Rattle.rx_grammar.specs.declared.limits.Limits.{Limits}
use Rattle.rx_pages.specs.Nesting.{IsAt}
use Rattle.rx_pages.specs.PageReader.{Progress, page_read, token_at}

-- The reader reads the bytes, and behind them these elements are open, in this phase; these characters belong to no whole token, and
-- these bytes to no whole character.
pub record ReadsTo (syntax : Syntax) (limits : Limits) (bytes : List ℕ) (line : Line) (phase : Phase) (run : List PlacedCharacter) (part : List ℕ) : Type 0 where
  pub now : Progress
  pub read : page_read syntax limits bytes ≡ Ok now
  pub is_at : IsAt line phase now.now.nest
  pub run_is : now.now.scan.run ≡ run
  pub part_is : now.now.scan.held ≡ part

-- The bytes hold no fault: whole tokens at the front of a page, what begins one more, and what begins a character. No limit is passed.
pub record IsUnderway (syntax : Syntax) (limits : Limits) (bytes : List ℕ) (line : Line) (phase : Phase) (run : List PlacedCharacter) (part : List ℕ) : Type 0 where
  pub whole : List ℕ
  pub items : List Item
  pub are : bytes ≡ whole ++ part
  pub reached : Reached syntax limits whole items line phase run
  pub pending : IsPending syntax (inside_of syntax line).content (values run)
  pub is_part : IsPart part
  pub size : length bytes ≤ limits.page
  pub short : IsShort syntax limits line run (token_of whole run) (length bytes)

-- Exactly such bytes are read, and the reader comes to where the grammar says.
abbrev pub ReadsWhatIsUnderway : Type 0
ReadsWhatIsUnderway = (syntax : Syntax) (limits : Limits) (bytes : List ℕ) (line : Line) (phase : Phase) (run : List PlacedCharacter) (part : List ℕ)
    → IsUnderway syntax limits bytes line phase run part ↔ ReadsTo syntax limits bytes line phase run part

-- Nothing is unfinished exactly behind the front of a page.
abbrev pub NothingUnfinished : Type 0
NothingUnfinished =
    (syntax : Syntax) (limits : Limits) (bytes : List ℕ) (line : Line) (phase : Phase)
    → Begun syntax limits bytes None line phase ↔ ReadsTo syntax limits bytes line phase [] []

-- What stands before the unfinished token is the front of a page, with the same open elements and phase, whatever follows.
abbrev pub UnfinishedFollowsFront : Type 0
UnfinishedFollowsFront = (syntax : Syntax) (limits : Limits) (bytes rest : List ℕ) (line : Line) (phase : Phase) (run : List PlacedCharacter) (part : List ℕ)
    → (r : ReadsTo syntax limits bytes line phase run part)
    → Begun syntax limits (take (token_at r.now.now.scan) (bytes ++ rest)) (next_of (values run) None) line phase
