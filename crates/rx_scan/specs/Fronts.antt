-- Plain text at the front of some bytes, and characters of a tag, which are taken at once.
use Rattle.std.specs.Prelude.{◌≡◌, ◌+◌, ◌≤◌, ℕ, Bool, true, false, List, [], ◌++◌, length}
use Rattle.rx_terms.specs.Common.{list_all, IsUtf8, chars}
use Rattle.rx_grammar.specs.declared.contents.Content.{Content}
use Rattle.rx_grammar.specs.declared.contents.Content.TheVariants as content
use Rattle.rx_scan.specs.declared.marks.TokenState.TheVariants as mark
use Rattle.rx_reader.specs.TagReader.{TagState}
use Rattle.rx_tags.specs.Fronts.{is_printed, GoesBy}
use Rattle.rx_tags.specs.TagBufs.{TagSoFar}
use Rattle.rx_scan.specs.Entries.{with_parts, undropped}
use Rattle.rx_scan.specs.Places.{text_passed, fed}
use Rattle.rx_scan.specs.Plain.{is_plain_char}
use Rattle.rx_scan.specs.Scanner.{Reading}

-- outside the root no such character is text
abbrev pub tells_text : Content → Bool
tells_text content.Outside = false
tells_text _ = true

-- Between characters, where no token is begun, plain text may be told at once: a byte order mark is no first character
-- here, and no line feed is dropped or belongs to a CR before it.
pub record TellsPlain (v : Reading) : Type 0 where
  pub held : v.held ≡ []
  pub inside : tells_text v.setting.inside ≡ true
  pub undropped : v.setting.drops ≡ false
  pub started : v.place.started ≡ true
  pub on_a_line : v.place.after_return ≡ false

-- This text may be told: its characters are plain, and none is past the page's limit.
pub record MayBeTold (v : Reading) (front : List ℕ) : Type 0 where
  pub between : v.pending.mark ≡ mark.Nothing
  pub may : TellsPlain v
  pub plain : list_all is_plain_char front ≡ true
  pub text : IsUtf8 front
  pub page : v.place.at + length front ≤ v.setting.limits.page

-- It is told.
pub record TellsFront (old : Reading) (front : List ℕ) (new : Reading) : Type 0 where
  pub may : MayBeTold old front
  pub text : new.text.text ≡ old.text.text ++ chars front
  pub size : new.text.size ≡ old.text.size + length front
  pub room : old.text.room ≤ new.text.room
  pub is : new ≡ with_parts old (undropped old.setting) (text_passed (length front) old.place) old.pending new.text

-- the tag in another state
abbrev pub with_state : TagSoFar → TagState → TagSoFar
with_state tag state = record { syntax = tag.syntax; state = state; refused = tag.refused }

-- In a tag and between characters it goes on with these bytes: none is past the page's limit or the tag's.
pub record FeedsFront (old : Reading) (front : List ℕ) (new : Reading) : Type 0 where
  pub in_tag : old.pending.mark ≡ mark.Tag
  pub held : old.held ≡ []
  pub printed : list_all is_printed front ≡ true
  pub page : old.place.at + length front ≤ old.setting.limits.page
  pub tag : old.place.at + length front ≤ old.place.token + old.setting.limits.tag
  pub state : TagState
  pub goes : GoesBy old.pending.tag.syntax old.pending.tag.state front state
  pub is : new ≡ with_parts old old.setting (fed (length front) old.place) (record { mark = old.pending.mark; run = old.pending.run; tag = with_state old.pending.tag state }) old.text
