-- What a tag does to the open elements.
use Rattle.std.specs.Prelude.{◌≡◌, ◌⊎◌, ℕ, Bool, true, false, not, ◌&&◌, ◌||◌, nat_le, [], ◌∷◌, length, drop, Some, None, Result, Ok, Err, if◌then◌else◌}
use Rattle.rx_grammar.specs.Common.{Chars, Syntax, same, Tag, place_inside, is_alone, is_html, is_plaintext, is_self_closed, hides, drops_line_feed, is_held, root_name, Rows, first_row}
use Rattle.rx_grammar.specs.declared.faults.Kind.TheVariants.{Mismatch, NothingOpen, Outside, Plaintext, RootNotHtml, SelfClosed, TooDeep}
use Rattle.rx_nest.specs.declared.lines.TagAction.{TagAction}
use Rattle.rx_nest.specs.declared.lines.TagAction.TheVariants.{Alone, Begin, Finish, Nothing}
use Rattle.rx_nest.specs.declared.lines.TagEffect.{TagEffect}
use Rattle.rx_nest.specs.declared.lines.Refused.{Refused}
use Rattle.rx_nest.specs.declared.lines.Refused.TheVariants.{Fault, NoMemory}
use Rattle.rx_nest.specs.Levels.{Level, Levels, place_under, name_under, hidden_under, row_at, ends_by, kept_levels, ended_count}

-- the open elements of a page of this syntax, with at most so many levels; `begun` says that the root has begun
pub record Lines : Type 0 where
  pub syntax : Syntax
  pub depth : ℕ
  pub begun : Bool
  pub levels : Levels

abbrev pub is_none_open : Levels → Bool
is_none_open [] = true
is_none_open (level ∷ above) = false

-- the faults of a start tag that don't look at the elements that it ends
abbrev pub start_refusals : Lines → Tag → Rows
start_refusals l t =
    (l.begun && is_none_open l.levels, Outside) ∷ (not l.begun && not (same t.name root_name), RootNotHtml) ∷ (is_plaintext l.syntax (place_under l.levels) t, Plaintext)
    ∷ (is_self_closed l.syntax (place_under l.levels) t, SelfClosed) ∷ []

-- the elements that stay open before a start tag of this name, and how many of the others are in the tree
abbrev pub kept_at_start : Chars → Levels → Levels
kept_at_start name levels = if is_html (place_under levels).content then kept_levels (ends_by false name) levels else levels

abbrev pub ended_at_start : Chars → Levels → ℕ
ended_at_start name levels = if is_html (place_under levels).content then ended_count (ends_by false name) levels else 0

-- the level of an element that begins under these
abbrev pub level_under : Syntax → Tag → Levels → Level
level_under syntax t levels =
    record {
      name = t.name;
      inside = place_inside syntax (place_under levels) t.name;
      row = row_at (place_under levels) t.name;
      held = is_held (name_under levels) t.name;
      shown = not (hidden_under levels);
      hides = hidden_under levels || hides (place_under levels) t;
    }

abbrev pub levels_begun : Syntax → Tag → Levels → Levels
levels_begun syntax t levels = if is_alone syntax (place_under levels) t then levels else level_under syntax t levels ∷ levels

-- what the tag itself tells
abbrev pub own_of_start : Syntax → Tag → Levels → TagAction
own_of_start syntax t levels = if hidden_under levels then Nothing else if is_alone syntax (place_under levels) t then Alone else Begin

-- a line feed directly after the tag is dropped
abbrev pub drops_under : Syntax → Tag → Levels → Bool
drops_under syntax t levels = not (is_alone syntax (place_under levels) t) && drops_line_feed (place_under levels) t

abbrev pub is_room : Lines → Tag → Bool
is_room l t = not (nat_le l.depth (length (kept_at_start t.name l.levels)))

-- a start tag: it ends elements, and begins its own
pub record StartTagBegins (old : Lines) (t : Tag) (told : TagEffect) (new : Lines) : Type 0 where
  pub allowed : first_row (start_refusals old t) ≡ None
  pub room : is_room old t ≡ true
  pub ends : told.ends ≡ ended_at_start t.name old.levels
  pub own : told.own ≡ own_of_start old.syntax t (kept_at_start t.name old.levels)
  pub drops : told.drops ≡ drops_under old.syntax t (kept_at_start t.name old.levels)
  pub becomes : new ≡ record { syntax = old.syntax; depth = old.depth; begun = true; levels = levels_begun old.syntax t (kept_at_start t.name old.levels) }

abbrev pub BeginGives : Lines → Tag → Result TagEffect Refused → Lines → Type 0
BeginGives old t (Ok told) new = StartTagBegins old t told new
BeginGives old t (Err (Fault kind)) new =
    (first_row (start_refusals old t) ≡ Some kind ⊎ (first_row (start_refusals old t) ≡ None × is_room old t ≡ false × kind ≡ TooDeep)) × (new ≡ old)
BeginGives old t (Err NoMemory) new = Unit {0}

-- the tag's own element begins, after so many others ended
abbrev pub OwnGives : ℕ → Lines → Tag → Result TagEffect Refused → Lines → Type 0
OwnGives ends old t (Ok told) new =
    (told ≡ record { ends = ends; own = own_of_start old.syntax t old.levels; drops = drops_under old.syntax t old.levels })
    × (new ≡ record { syntax = old.syntax; depth = old.depth; begun = true; levels = levels_begun old.syntax t old.levels })
OwnGives ends old t (Err (Fault kind)) new = ⊥
OwnGives ends old t (Err NoMemory) new = Unit {0}

-- an end tag: it ends elements whose end tags are omitted, and the one of its name
abbrev pub is_open_named : Chars → Levels → Bool
is_open_named name [] = false
is_open_named name (level ∷ above) = same level.name name

abbrev pub shown_under : Levels → Bool
shown_under [] = false
shown_under (level ∷ above) = level.shown

abbrev pub own_of_end : Levels → TagAction
own_of_end levels = if shown_under levels then Finish else Nothing

pub record EndTagEnds (old : Lines) (t : Tag) (told : TagEffect) (new : Lines) : Type 0 where
  pub there : is_none_open old.levels ≡ false
  pub named : is_open_named t.name (kept_levels (ends_by true t.name) old.levels) ≡ true
  pub ends : told.ends ≡ ended_count (ends_by true t.name) old.levels
  pub own : told.own ≡ own_of_end (kept_levels (ends_by true t.name) old.levels)
  pub drops : told.drops ≡ false
  pub becomes : new ≡ record { syntax = old.syntax; depth = old.depth; begun = old.begun; levels = drop 1 (kept_levels (ends_by true t.name) old.levels) }

abbrev pub EndTagGives : Lines → Tag → Result TagEffect Refused → Lines → Type 0
EndTagGives old t (Ok told) new = EndTagEnds old t told new
EndTagGives old t (Err (Fault kind)) new =
    ((is_none_open old.levels ≡ true × kind ≡ NothingOpen) ⊎ (is_none_open old.levels ≡ false × is_open_named t.name (kept_levels (ends_by true t.name) old.levels) ≡ false × kind ≡ Mismatch)) × (new ≡ old)
EndTagGives old t (Err NoMemory) new = ⊥

-- a tag, which is an end tag or a start tag
abbrev pub GivesBy : Bool → Lines → Tag → Result TagEffect Refused → Lines → Type 0
GivesBy true old t result new = EndTagGives old t result new
GivesBy false old t result new = BeginGives old t result new

abbrev pub TagGives : Lines → Tag → Result TagEffect Refused → Lines → Type 0
TagGives old t result new = GivesBy t.closing old t result new

-- text is text of the tree
abbrev pub says_text : Lines → Bool
says_text l = not (is_none_open l.levels) && not (hidden_under l.levels)
