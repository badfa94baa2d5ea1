-- What the scanner does with one character.
use Rattle.std.specs.Prelude.{◌≡◌, ℕ, ◌+◌, ◌≤◌, Bool, true, false, not, ◌&&◌, ◌||◌, ◌==◌, nat_le, MatchBool, List, [], ◌∷◌, ◌++◌, encode_utf8_all, Option, Some, None, Result, Ok, Err, if◌then◌else◌}
use Rattle.rx_grammar.specs.Common.{line_feed, greater_than_sign, right_bracket, Chars, is_empty, answer_of, byte_order_mark, carriage_return, as_line_end, character, meaning, is_strict_literal}
use Rattle.rx_chars.specs.declared.utf8.Utf8Step.{Utf8Step}
use Rattle.rx_chars.specs.declared.utf8.Utf8Step.TheVariants.{More, Char, Bad}
use Rattle.rx_grammar.specs.declared.faults.Fault.{Fault}
use Rattle.rx_grammar.specs.declared.faults.Kind.{Kind}
use Rattle.rx_grammar.specs.declared.faults.Kind.TheVariants.{BadDoctype, NotUtf8, Nul, PageTooLong, StrictText, TagTooLong}
use Rattle.rx_reader.specs.Values.{no_meaning}
use Rattle.rx_reader.specs.Tables.{is_last}
use Rattle.rx_reader.specs.TagReader.{is_closing}
use Rattle.rx_grammar.specs.declared.stops.Stop.{Stop}
use Rattle.rx_grammar.specs.declared.stops.Stop.TheVariants as stop
use Rattle.rx_tags.specs.declared.tag_text.TagStep.TheVariants as tag_step
use Rattle.rx_tags.specs.declared.pairs.TagError.TheVariants as tag_error
use Rattle.rx_tags.specs.TagBufs.{TagSoFar, no_tag, MayStep, StepGives}
use Rattle.rx_scan.specs.declared.answers.TokenKind.{TokenKind}
use Rattle.rx_scan.specs.declared.answers.TokenKind.TheVariants as what
use Rattle.rx_scan.specs.declared.marks.Brackets.TheVariants as brackets
use Rattle.rx_scan.specs.declared.marks.TokenState.{TokenState}
use Rattle.rx_scan.specs.declared.marks.TokenState.TheVariants as mark
use Rattle.rx_scan.specs.declared.marks.Whole.{Whole}
use Rattle.rx_scan.specs.declared.marks.Whole.TheVariants as whole
use Rattle.rx_scan.specs.declared.marks.First.{First}
use Rattle.rx_scan.specs.declared.marks.First.TheVariants as first
use Rattle.rx_scan.specs.declared.marks.Move.{Move}
use Rattle.rx_scan.specs.declared.marks.Move.TheVariants as move
use Rattle.rx_scan.specs.declared.places.Position.{Position}
use Rattle.rx_scan.specs.declared.places.Setting.{Setting}
use Rattle.rx_scan.specs.Buffers.{Buffered}
use Rattle.rx_scan.specs.KnownTags.{is_tag_with, lies_in_tag}
use Rattle.rx_scan.specs.Marks.{at_first, scan_move}
use Rattle.rx_scan.specs.Pending.{Pending, bracket_text, first_char, phase_of}
use Rattle.rx_scan.specs.Places.{byte_held, entered, begun, ended, cut}
use Rattle.rx_scan.specs.Scanner.{Reading}

-- where the token begins that the next character belongs to
abbrev pub token_from : TokenState → Position → ℕ
token_from mark.Nothing p = p.starts
token_from _ p = p.token

abbrev pub fault_at : Reading → Kind → Fault
fault_at v kind = record { kind = kind; token = token_from v.pending.mark v.place; at = v.place.at }

-- what stands before the token may refuse it
abbrev pub judged : Setting → Bool → ℕ → Move → Move
judged setting two c move.EmitText = if two && is_strict_literal greater_than_sign setting.inside (character c) then move.Refuses StrictText else move.EmitText
judged setting two c (move.Ends whole.Doctype) = if setting.leads then move.Ends whole.Doctype else move.Refuses BadDoctype
judged setting two c other = other

abbrev pub move_at : Reading → ℕ → Move
move_at v c = judged v.setting v.place.two c (scan_move v.setting.syntax v.setting.inside v.pending.mark c)

-- a literal `]` of XHTML
abbrev pub is_bracket : Setting → ℕ → Bool
is_bracket setting c = is_strict_literal right_bracket setting.inside (character c)

abbrev pub undropped : Setting → Setting
undropped setting = record { syntax = setting.syntax; limits = setting.limits; inside = setting.inside; leads = setting.leads; drops = false }

abbrev pub after_doctype : Setting → Setting
after_doctype setting = record { syntax = setting.syntax; limits = setting.limits; inside = setting.inside; leads = false; drops = false }

abbrev pub after_tag : Setting → Bool → Setting
after_tag setting closing = record { syntax = setting.syntax; limits = setting.limits; inside = setting.inside; leads = setting.leads && closing; drops = false }

-- the value with other parts
abbrev pub with_parts : Reading → Setting → Position → Pending → Buffered → Reading
with_parts v setting place pending text =
    record { setting = setting; place = place; held = []; pending = pending; text = text; end = v.end }

abbrev pub with_mark : TokenState → Pending → Pending
with_mark m p = record { mark = m; run = p.run; tag = p.tag }

abbrev pub with_character : TokenState → ℕ → Pending → Pending
with_character m c p = record { mark = m; run = p.run ++ c ∷ []; tag = p.tag }

-- the token goes on
abbrev pub gone : Reading → Bool → Pending → Reading
gone v after_return pending = with_parts v v.setting (entered after_return v.place) pending v.text

-- a token begins
abbrev pub with_begun : Reading → Bool → TokenState → Reading
with_begun v after_return m = with_parts v v.setting (begun after_return v.place) (record { mark = m; run = []; tag = no_tag v.pending.tag.syntax }) v.text

-- a token is whole of which no text is told
abbrev pub with_ended : Reading → Bool → Setting → Reading
with_ended v after_return setting = with_parts v setting (ended after_return false v.place) (with_mark mark.Nothing v.pending) v.text

-- the tag that was read is whole
abbrev pub with_tag : Reading → Bool → Reading
with_tag v after_return =
    record { setting = after_tag v.setting (is_closing v.pending.tag.state.phase); place = ended after_return false v.place; held = []; pending = with_mark mark.Nothing v.pending; text = v.text; end = v.place.at }

-- the text has one more character, unless it is a line feed that is dropped
abbrev pub is_dropped : Setting → ℕ → Bool
is_dropped setting c = setting.drops && c == line_feed

-- the text behind which these characters stand
pub record TextGrows (old new : Buffered) (more : Chars) : Type 0 where
  pub text : new.text ≡ old.text ++ more
  pub room : old.room ≤ new.room

-- the same, by one character
pub record TextGains (old new : Buffered) (c : ℕ) : Type 0 where
  pub text : new.text ≡ old.text ++ c ∷ []
  pub size : new.size ≤ old.size + 4
  pub room : old.room ≤ new.room

-- text is told, and what is left pending is `pending`
pub record TellsMoreText (old : Reading) (place : Position) (pending : Pending) (new : Reading) (more : Chars) : Type 0 where
  pub text : TextGrows old.text new.text more
  pub is : new ≡ with_parts old (undropped old.setting) place pending new.text

pub record TellsCharacter (old : Reading) (place : Position) (new : Reading) (c : ℕ) : Type 0 where
  pub text : TextGains old.text new.text c
  pub is : new ≡ with_parts old (undropped old.setting) place (with_mark mark.Nothing old.pending) new.text

abbrev pub OrSpent : {A : Type 0} → Result A Stop → (A → Type 0) → Type 0
OrSpent (Ok answer) P = P answer
OrSpent (Err (stop.Fault f)) P = ⊥
OrSpent (Err stop.NoMemory) P = Unit {0}

-- one character of text, by itself or by a reference
abbrev pub SaysCharacter : Reading → ℕ → Position → Result TokenKind Stop → Reading → Type 0
SaysCharacter old c place (Ok what.Nothing) new = (is_dropped old.setting c ≡ false) × TellsCharacter old place new c
SaysCharacter old c place (Ok what.Skipped) new =
    (is_dropped old.setting c ≡ true) × (new ≡ with_parts old (undropped old.setting) place (with_mark mark.Nothing old.pending) old.text)
SaysCharacter old c place (Ok _) new = ⊥
SaysCharacter old c place (Err (stop.Fault f)) new = ⊥
SaysCharacter old c place (Err stop.NoMemory) new = Unit {0}

abbrev pub Tags : Reading → ℕ → Bool → Pending → Result TokenKind Stop → Reading → Type 0
Tags old c after_return pending (Ok what.Nothing) new =
    (tag : TagSoFar) × StepGives old.pending.tag c (Ok tag_step.More) tag × (new ≡ gone old after_return (record { mark = pending.mark; run = pending.run; tag = tag }))
Tags old c after_return pending (Ok what.Tag) new =
    (tag : TagSoFar) × StepGives old.pending.tag c (Ok tag_step.Done) tag
    × (new ≡ record { setting = after_tag old.setting (is_closing tag.state.phase); place = ended after_return false old.place; held = []; pending = record { mark = mark.Nothing; run = pending.run; tag = tag }; text = old.text; end = old.place.at })
Tags old c after_return pending (Ok _) new = ⊥
Tags old c after_return pending (Err (stop.Fault f)) new =
    (kind : Kind) × (tag : TagSoFar) × StepGives old.pending.tag c (Err (tag_error.Bad kind)) tag × (f ≡ fault_at old kind)
Tags old c after_return pending (Err stop.NoMemory) new = Unit {0}

-- the run was text, and the character is read afresh
abbrev pub EndsTextRun : Reading → ℕ → Bool → First → Result TokenKind Stop → Reading → Type 0
EndsTextRun old c after_return (first.Begins m) result new =
    OrSpent result (λ answer. (answer ≡ what.Nothing)
    × TellsMoreText old (begun after_return (cut old.place)) (record {
      mark =
          m;
      run = [];
      tag = no_tag old.pending.tag.syntax;
    }) new (first_char old.pending.mark ∷ old.pending.run))
EndsTextRun old c after_return first.EmitText result new =
    OrSpent result (λ answer. (answer ≡ what.Nothing)
    × TellsMoreText old (ended after_return (is_bracket old.setting c) (cut old.place)) (with_mark mark.Nothing old.pending) new ((first_char old.pending.mark ∷ old.pending.run) ++ c ∷ []))
EndsTextRun old c after_return (first.Refuses kind) result new = result ≡ Err (stop.Fault (fault_at old kind))

-- the run is told, and its token is over
pub record TellsRun (old new : Reading) : Type 0 where
  pub text : TextGrows old.text new.text (first_char old.pending.mark ∷ old.pending.run)
  pub is : new ≡ record { setting = undropped old.setting; place = cut old.place; held = old.held; pending = old.pending; text = new.text; end = old.end }

abbrev pub ClosesReference : Reading → Bool → Option ℕ → Result TokenKind Stop → Reading → Type 0
ClosesReference old after_return (Some d) result new = SaysCharacter old d (ended after_return false old.place) result new
ClosesReference old after_return None result new = result ≡ Err (stop.Fault (fault_at old (no_meaning (phase_of old.pending.mark))))

abbrev pub TokenEnds : Reading → Bool → Whole → Result TokenKind Stop → Reading → Type 0
TokenEnds old after_return whole.Comment result new = (result ≡ Ok what.Skipped) × (new ≡ with_ended old after_return (undropped old.setting))
TokenEnds old after_return whole.Doctype result new = (result ≡ Ok what.Doctype) × (new ≡ with_ended old after_return (after_doctype old.setting))
TokenEnds old after_return whole.Section result new =
    (result ≡ Ok (if is_empty old.pending.run then what.Skipped else what.Section)) × (new ≡ with_ended old after_return (undropped old.setting))

abbrev pub Went : Reading → Reading → Result TokenKind Stop → Reading → Type 0
Went old next result new = OrSpent result (λ answer. (answer ≡ what.Nothing) × (new ≡ next))

-- where a fault was answered
abbrev pub IfFault : {A : Type 0} → Result A Stop → Type 0 → Type 0
IfFault (Err (stop.Fault f)) P = P
IfFault _ P = Unit {0}

-- a fault that is answered lies there
abbrev pub LiesAt : {A : Type 0} → Result A Stop → ℕ → Type 0
LiesAt (Err (stop.Fault f)) at = f.at ≡ at
LiesAt _ at = Unit {0}

abbrev pub IsNoMemory : {A : Type 0} → Result A Stop → Bool
IsNoMemory (Err stop.NoMemory) = true
IsNoMemory _ = false

-- Between tokens a fault changes nothing, and text that has room takes no memory.
pub record Between (old : Reading) (result : Result TokenKind Stop) (new : Reading) : Type 0 where
  pub unchanged : IfFault result (new ≡ old)
  pub unspent : old.text.size + 4 ≤ old.text.room → IsNoMemory result ≡ false

-- A tag is lent that is whole, or is read on; the text keeps its room; and a fault lies behind the bytes that were taken.
abbrev pub MayGoOn : Result TokenKind Stop → Reading → Type 0
MayGoOn (Ok what.Tag) new = (is_last new.pending.tag.state.phase ≡ true) × (new.pending.mark ≡ mark.Nothing)
MayGoOn (Ok _) new = MayStep new.pending.tag
MayGoOn (Err e) new = Unit {0}

pub record IsReady (old : Reading) (result : Result TokenKind Stop) (new : Reading) : Type 0 where
  pub may_go_on : MayGoOn result new
  pub room : old.text.room ≤ new.text.room
  pub text : IfFault result (new.text.text ≡ old.text.text)
  pub place : LiesAt result new.place.at

-- what one character does, by its move
abbrev pub Enters : Reading → ℕ → Bool → Move → Result TokenKind Stop → Reading → Type 0
Enters old c after_return (move.Begins m) result new = (result ≡ Ok what.Nothing) × (new ≡ with_begun old after_return m)
Enters old c after_return (move.Continue m) result new = (result ≡ Ok what.Nothing) × (new ≡ gone old after_return (with_mark m old.pending))
Enters old c after_return (move.Keeps m) result new = Went old (gone old after_return (with_character m c old.pending)) result new
Enters old c after_return (move.KeepsAfter b) result new =
    Went old (gone old after_return (record {
      mark =
          mark.Section brackets.None;
      run = (old.pending.run ++ bracket_text b) ++ c ∷ [];
      tag = old.pending.tag;
    })) result new
Enters old c after_return move.Tags result new = Tags old c after_return (with_mark mark.Tag old.pending) result new
Enters old c after_return (move.KeepsTag n) result new = Tags old c after_return (with_character (mark.RawEnd n) c old.pending) result new
Enters old c after_return move.EmitText result new = SaysCharacter old c (ended after_return (is_bracket old.setting c) old.place) result new
Enters old c after_return (move.Ends w) result new = TokenEnds old after_return w result new
Enters old c after_return move.Closes result new = ClosesReference old after_return (meaning old.setting.syntax (encode_utf8_all old.pending.run)) result new
Enters old c after_return move.Reconsume result new = EndsTextRun old c after_return (at_first old.setting.inside c) result new
Enters old c after_return (move.Refuses kind) result new = result ≡ Err (stop.Fault (fault_at old kind))

-- a byte order mark that stands first, and a line feed directly after a CR, aren't entered
abbrev pub passes_over : Position → ℕ → Bool
passes_over p c = not p.started && c == byte_order_mark || p.after_return && c == line_feed

-- with the byte at `at` the tag has too many
abbrev pub is_long : Reading → Bool → Bool
is_long v known = known && nat_le (token_from v.pending.mark v.place + v.setting.limits.tag) v.place.at

abbrev pub with_passed : Reading → Reading
with_passed v = with_parts v v.setting (entered false v.place) v.pending v.text

abbrev pub kind_of_mark : ℕ → TokenKind
kind_of_mark c = if c == byte_order_mark then what.Skipped else what.Nothing

-- what a whole character does
abbrev pub ReadsChar : Reading → ℕ → Result TokenKind Stop → Reading → Type 0
ReadsChar old c result new =
    MatchBool (passes_over old.place c) ((result ≡ Ok (kind_of_mark c)) × (new ≡ with_passed old))
    (MatchBool (is_long old (is_tag_with old.setting.syntax old.setting.inside old.pending.mark (as_line_end c))) (result ≡ Err (stop.Fault (fault_at old TagTooLong)))
    (Enters old (as_line_end c) (c == carriage_return) (move_at old (as_line_end c)) result new))

abbrev pub with_held : Reading → List ℕ → Reading
with_held v held =
    record { setting = v.setting; place = byte_held v.place; held = held; pending = v.pending; text = v.text; end = v.end }

abbrev pub ReadsAnswer : Reading → List ℕ → Utf8Step → Result TokenKind Stop → Reading → Type 0
ReadsAnswer old held Bad result new = result ≡ Err (stop.Fault (fault_at old NotUtf8))
ReadsAnswer old held More result new =
    MatchBool (is_long old (lies_in_tag old.pending.mark)) (result ≡ Err (stop.Fault (fault_at old TagTooLong))) ((result ≡ Ok what.Nothing) × (new ≡ with_held old held))
ReadsAnswer old held (Char c) result new =
    MatchBool (c == 0) (result ≡ Err (stop.Fault (fault_at old Nul)))
    (MatchBool (is_long old (lies_in_tag old.pending.mark)) (result ≡ Err (stop.Fault (fault_at old TagTooLong))) (ReadsChar old c result new))

-- what a byte does
abbrev pub ReadsByte : Reading → ℕ → Result TokenKind Stop → Reading → Type 0
ReadsByte old byte result new =
    MatchBool (nat_le old.setting.limits.page old.place.at) (result ≡ Err (stop.Fault (fault_at old PageTooLong)))
    (ReadsAnswer old (old.held ++ byte ∷ []) (answer_of (old.held ++ byte ∷ [])) result new)
