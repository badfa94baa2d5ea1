-- What a mark says of the characters since the last token, with what is kept of them.
use Rattle.std.specs.Prelude.{◌≡◌, ℕ, Bool, true, false, ◌==◌, [], ◌∷◌, ◌++◌, length, map, codes, Some, Ok}
use Rattle.rx_grammar.specs.Common.{ampersand, less_than_sign, greater_than_sign, lowered_char, Chars, is_empty, Syntax, same, meaning, comment, exclamation_mark, ends_with, ends_comment, has_markup, raw_name, is_known_tag}
use Rattle.rx_grammar.specs.declared.contents.Content.{Content}
use Rattle.rx_reader.specs.declared.phases.TagPhase.{TagPhase}
use Rattle.rx_reader.specs.declared.phases.TagPhase.TheVariants as phase
use Rattle.rx_reader.specs.declared.phases.RunPhase.{RunPhase}
use Rattle.rx_reader.specs.declared.phases.RunPhase.TheVariants as run
use Rattle.rx_reader.specs.declared.phases.RunMove.{RunMove}
use Rattle.rx_reader.specs.declared.phases.RunMove.TheVariants as run_moves
use Rattle.rx_reader.specs.Tables.{run_move}
use Rattle.rx_reader.specs.TagReader.{fresh, tag_on}
use Rattle.rx_pages.specs.Scanner as told
use Rattle.rx_tags.specs.TagBufs.{TagSoFar, MayStep}
use Rattle.rx_scan.specs.declared.marks.Word.{Word}
use Rattle.rx_scan.specs.declared.marks.CommentPhase.{CommentPhase}
use Rattle.rx_scan.specs.declared.marks.CommentPhase.TheVariants as comment_phase
use Rattle.rx_scan.specs.declared.marks.StrictPhase.{StrictPhase}
use Rattle.rx_scan.specs.declared.marks.StrictPhase.TheVariants as strict
use Rattle.rx_scan.specs.declared.marks.DoctypePhase.{DoctypePhase}
use Rattle.rx_scan.specs.declared.marks.DoctypePhase.TheVariants as doctype_phase
use Rattle.rx_scan.specs.declared.marks.Brackets.{Brackets}
use Rattle.rx_scan.specs.declared.marks.Brackets.TheVariants as brackets
use Rattle.rx_scan.specs.declared.marks.TokenState.{TokenState}
use Rattle.rx_scan.specs.declared.marks.TokenState.TheVariants as mark
use Rattle.rx_scan.specs.Marks.{end_word, looks_for, opening_text, opening_char, are_two}

-- what is kept of the characters since the last token
pub record Pending : Type 0 where
  pub mark : TokenState
  pub run : Chars
  pub tag : TagSoFar

-- the character with which a run begins that may stay text
abbrev pub first_char : TokenState → ℕ
first_char (mark.Run p) = ampersand
first_char _ = less_than_sign

-- how far a reference was read
abbrev pub phase_of : TokenState → RunPhase
phase_of (mark.Run p) = p
phase_of _ = run.Plain

-- the run's phase, read from its first character on
abbrev pub run_on : RunMove → Chars → RunMove
run_on reached [] = reached
run_on (run_moves.Goes p) (c ∷ text) = run_on (run_move p c) text
run_on run_moves.Closes (c ∷ text) = run_moves.Stops
run_on run_moves.Stops (c ∷ text) = run_moves.Stops

-- the end of a comment's text tells the phase
abbrev pub is_start : CommentPhase → Bool
is_start comment_phase.Start = true
is_start _ = false

abbrev pub is_start_dash : CommentPhase → Bool
is_start_dash comment_phase.StartDash = true
is_start_dash _ = false

abbrev pub has_dash : CommentPhase → Bool
has_dash comment_phase.StartDash = true
has_dash comment_phase.Dash = true
has_dash comment_phase.Dashes = true
has_dash _ = false

abbrev pub has_dashes : CommentPhase → Bool
has_dashes comment_phase.Dashes = true
has_dashes _ = false

abbrev pub has_bang : CommentPhase → Bool
has_bang comment_phase.Bang = true
has_bang _ = false

pub record CommentEnds (p : CommentPhase) (text : Chars) : Type 0 where
  pub empty : is_empty text ≡ is_start p
  pub lone : same text (codes "-") ≡ is_start_dash p
  pub dash : ends_with (codes "-") text ≡ has_dash p
  pub dashes : ends_with (codes "--") text ≡ has_dashes p
  pub bang : ends_with (codes "--!") text ≡ has_bang p

abbrev pub has_strict_dash : StrictPhase → Bool
has_strict_dash strict.Text = false
has_strict_dash _ = true

abbrev pub has_strict_dashes : StrictPhase → Bool
has_strict_dashes strict.Dashes = true
has_strict_dashes _ = false

pub record StrictEnds (p : StrictPhase) (text : Chars) : Type 0 where
  pub dash : ends_with (codes "-") text ≡ has_strict_dash p
  pub dashes : ends_with (codes "--") text ≡ has_strict_dashes p

abbrev pub bracket_text : Brackets → Chars
bracket_text brackets.None = []
bracket_text brackets.One = codes "]"
bracket_text brackets.Two = codes "]]"

abbrev pub is_one : Brackets → Bool
is_one brackets.None = false
is_one _ = true

pub record SectionEnds (b : Brackets) (kept text : Chars) : Type 0 where
  pub are : text ≡ kept ++ bracket_text b
  pub one : ends_with (codes "]") text ≡ is_one b
  pub two : ends_with (codes "]]") text ≡ are_two b

-- the phase of a document type, where so many characters of its name were read
pub record NameLeft (n : ℕ) (p : told.DoctypePhase) : Type 0 where
  pub read : Chars
  pub left : Chars
  pub are : codes "html" ≡ read ++ left
  pub count : length read ≡ n
  pub phase : p ≡ told.naming left

abbrev pub DoctypeIs : DoctypePhase → told.DoctypePhase → Type 0
DoctypeIs doctype_phase.Keyword p = p ≡ told.keyword
DoctypeIs doctype_phase.Spaces p = p ≡ told.spaces
DoctypeIs (doctype_phase.Name n) p = NameLeft n p
DoctypeIs doctype_phase.Passed p = p ≡ told.passed

pub record DoctypeEnds (syntax : Syntax) (p : DoctypePhase) (text : Chars) : Type 0 where
  pub phase : told.DoctypePhase
  pub read : told.doctype_on syntax (Some told.keyword) text ≡ Some phase
  pub is : DoctypeIs p phase

-- what was read of an end tag makes its phase
abbrev pub end_phase : Chars → TagPhase
end_phase [] = phase.Start
end_phase (c ∷ []) = phase.EndStart
end_phase (c ∷ d ∷ more) = phase.EndName

module _ (syntax : Syntax) (inside : Content) where
  -- Behind `<` and these characters the others are judged alone, and all of them are no tag.
  pub record Judged (front : Chars) (judge : Chars → ℕ → told.Verdict) : Type 0 where
    pub judged : (more : Chars) (c : ℕ) → told.verdict syntax inside (less_than_sign ∷ (front ++ more)) c ≡ judge more c
    pub no_tag : (more : Chars) → is_known_tag syntax inside (less_than_sign ∷ (front ++ more)) ≡ false

  pub record Behind (judge : Chars → ℕ → told.Verdict) (Is : Chars → Type 0) (text : Chars) : Type 0 where
    pub front : Chars
    pub rest : Chars
    pub are : text ≡ less_than_sign ∷ (front ++ rest)
    pub judges : Judged front judge
    pub is : Is rest

  pub record InLessThan (kept : Chars) (tag : TagSoFar) (text : Chars) : Type 0 where
    pub are : text ≡ less_than_sign ∷ []
    pub none : kept ≡ []
    pub markup : has_markup inside ≡ true
    pub state : tag.state ≡ fresh
    pub may_step : MayStep tag

  pub record InRawEnd (n : ℕ) (kept : Chars) (tag : TagSoFar) (text : Chars) : Type 0 where
    pub name : Chars
    pub raw : raw_name inside ≡ Some name
    pub are : text ≡ less_than_sign ∷ kept
    pub count : length kept ≡ n
    pub left : Chars
    pub word : end_word inside ≡ map lowered_char kept ++ left
    pub read : tag_on syntax (meaning syntax) (Ok fresh) kept ≡ Ok tag.state
    pub phase_is : tag.state.phase ≡ end_phase kept
    pub may_step : MayStep tag

  pub record InTag (tag : TagSoFar) (text : Chars) : Type 0 where
    pub chars : Chars
    pub are : text ≡ less_than_sign ∷ chars
    pub judged : (more : Chars) (c : ℕ) → told.verdict syntax inside (less_than_sign ∷ (chars ++ more)) c ≡ told.in_tag syntax (chars ++ more) c
    pub known : (more : Chars) → is_known_tag syntax inside (less_than_sign ∷ (chars ++ more)) ≡ true
    pub read : tag_on syntax (meaning syntax) (Ok fresh) chars ≡ Ok tag.state
    pub may_step : MayStep tag

  pub record InRun (p : RunPhase) (kept text : Chars) : Type 0 where
    pub are : text ≡ ampersand ∷ kept
    pub phase : run_on (run_moves.Goes run.Ampersand) kept ≡ run_moves.Goes p

  pub record InOpened (kept text : Chars) : Type 0 where
    pub are : text ≡ less_than_sign ∷ exclamation_mark ∷ []
    pub none : kept ≡ []
    pub markup : has_markup inside ≡ true

  pub record InOpening (w : Word) (n : ℕ) (kept text : Chars) : Type 0 where
    pub none : kept ≡ []
    pub first : ℕ
    pub chars : Chars
    pub are : text ≡ less_than_sign ∷ exclamation_mark ∷ first ∷ chars
    pub markup : has_markup inside ≡ true
    pub looked : looks_for syntax inside w ≡ true
    pub count : length (first ∷ chars) ≡ n
    pub next : ℕ
    pub left : Chars
    pub word : opening_text syntax w ≡ map (opening_char syntax w) (first ∷ chars) ++ next ∷ left

  abbrev pub is_closing_sign : Chars → ℕ → told.Verdict
  is_closing_sign rest c = told.whole_if (c == greater_than_sign) comment

  abbrev pub judge_of : TokenState → Chars → ℕ → told.Verdict
  judge_of (mark.Comment p) rest c = told.whole_if (ends_comment (rest ++ c ∷ [])) comment
  judge_of (mark.StrictComment p) rest c = told.in_strict_comment rest c
  judge_of (mark.Instruction asked) rest c = told.whole_if (ends_with (codes "?>") (rest ++ c ∷ [])) comment
  judge_of (mark.Doctype p) rest c = told.in_doctype syntax rest c
  judge_of (mark.Section b) rest c = told.in_section rest c
  judge_of _ rest c = told.whole_if (c == greater_than_sign) comment

  -- these are the characters since the last token
  abbrev pub PendsAs : TokenState → Chars → TagSoFar → Chars → Type 0
  PendsAs mark.Nothing kept tag text = text ≡ []
  PendsAs mark.LessThan kept tag text = InLessThan kept tag text
  PendsAs (mark.RawEnd n) kept tag text = InRawEnd n kept tag text
  PendsAs mark.Tag kept tag text = InTag tag text
  PendsAs (mark.Run p) kept tag text = InRun p kept text
  PendsAs mark.Opened kept tag text = InOpened kept text
  PendsAs (mark.Opening w n) kept tag text = InOpening w n kept text
  PendsAs (mark.Comment p) kept tag text = Behind (judge_of (mark.Comment p)) (CommentEnds p) text
  PendsAs (mark.StrictComment p) kept tag text = Behind (judge_of (mark.StrictComment p)) (StrictEnds p) text
  PendsAs mark.Bogus kept tag text = Behind (judge_of mark.Bogus) (λ rest. Unit {0}) text
  PendsAs (mark.Instruction asked) kept tag text = Behind (judge_of (mark.Instruction asked)) (λ rest. ends_with (codes "?") rest ≡ asked) text
  PendsAs (mark.Doctype p) kept tag text = Behind (judge_of (mark.Doctype p)) (DoctypeEnds syntax p) text
  PendsAs (mark.Section b) kept tag text = Behind (judge_of (mark.Section b)) (SectionEnds b kept) text

  abbrev pub Pends : Pending → Chars → Type 0
  Pends p text = PendsAs p.mark p.run p.tag text

-- a CDATA section with this text so far, behind which no bracket stands
abbrev pub section_pending : Pending → Chars → Pending
section_pending old run = record { mark = mark.Section brackets.None; run = run; tag = old.tag }
