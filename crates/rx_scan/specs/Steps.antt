-- What a scanner stands for, and what its calls answer of the bytes.
use Rattle.std.specs.Prelude.{◌≡◌, ◌≢◌, ℕ, ◌+◌, ◌<◌, ◌≤◌, ◌⊎◌, Bool, true, false, not, ◌||◌, ◌&&◌, ◌==◌, List, [], ◌∷◌, ◌++◌, length, take, slice_get, Option, Some, None, Result, Ok, Err, if◌then◌else◌}
use Rattle.rx_grammar.specs.Common.{list_all, chars, ampersand, less_than_sign, Chars, is_empty, Syntax, Html, Xhtml, Tag, Token, tag, section, comment, doctype, values, Item, text_of, is_line_feed}
use Rattle.rx_grammar.specs.declared.contents.Content.{Content}
use Rattle.rx_grammar.specs.declared.contents.Content.TheVariants as content
use Rattle.rx_grammar.specs.declared.faults.Fault.{Fault}
use Rattle.rx_grammar.specs.declared.faults.Kind.TheVariants.{Unended}
use Rattle.rx_grammar.specs.declared.limits.Limits.{Limits}
use Rattle.rx_reader.specs.Tables.{is_last}
use Rattle.rx_reader.specs.TagReader.{parts_of, is_closing}
use Rattle.rx_pages.specs.PageReader.{Scanning, token_at, starts_at, fault_in, Scanned, read_byte, scan_from, is_none_left}
use Rattle.rx_grammar.specs.declared.stops.Stop.{Stop}
use Rattle.rx_grammar.specs.declared.stops.Stop.TheVariants as stop
use Rattle.rx_tags.specs.declared.tags.Tag as the
use Rattle.rx_tags.specs.Seen.{tag_seen}
use Rattle.rx_tags.specs.TagBufs.{no_tag, MayStep}
use Rattle.rx_scan.specs.declared.answers.TokenKind.{TokenKind}
use Rattle.rx_scan.specs.declared.answers.TokenKind.TheVariants as what
use Rattle.rx_scan.specs.declared.answers.Token as shown
use Rattle.rx_scan.specs.declared.answers.Token.TheVariants as token
use Rattle.rx_scan.specs.declared.marks.TokenState.TheVariants as mark
use Rattle.rx_scan.specs.declared.places.Setting.{Setting}
use Rattle.rx_scan.specs.Pending.{Pends}
use Rattle.rx_scan.specs.Scanner.{Reading, Scanner, reading_spot}
use Rattle.rx_scan.specs.Entries.{IsNoMemory, token_from, undropped}

-- The reading stands for the state: the same place and bytes, and the mark says what the characters since the last token are.
pub record ReadsAs (v : Reading) (s : Scanning) : Type 0 where
  pub at : v.place.at ≡ s.at
  pub starts : v.place.starts ≡ starts_at s
  pub held : v.held ≡ s.held
  pub started : v.place.started ≡ s.started
  pub after_return : v.place.after_return ≡ s.after_return
  pub two : v.place.two ≡ s.two
  pub last : v.place.last ≡ s.last
  pub token : token_from v.pending.mark v.place ≡ token_at s
  pub syntax : v.pending.tag.syntax ≡ v.setting.syntax
  pub pends : Pends v.setting.syntax v.setting.inside v.pending (values s.run)

-- A scanner that has answered neither a fault nor want of memory stands for the state after the bytes that it took.
pub record ScanStands (v : Scanner) (s : Scanning) : Type 0 where
  pub reads_as : ReadsAs v.reading s
  pub unfailed : v.failed ≡ None
  pub unspent : v.out_of_memory ≡ false

-- the text of tokens that all are text
abbrev pub joined : Option Chars → Option Chars → Option Chars
joined (Some text) (Some more) = Some (text ++ more)
joined _ _ = None

abbrev pub texts_of : List Item → Option Chars
texts_of [] = Some []
texts_of (item ∷ items) = joined (text_of item.token) (texts_of items)

-- the first token isn't a line feed that is dropped
abbrev pub keeps_first : Bool → List Item → Bool
keeps_first drops [] = true
keeps_first drops (item ∷ items) = not (drops && is_line_feed item.token)

pub record IsOne (token : Token) (items : List Item) : Type 0 where
  pub item : Item
  pub one : items ≡ item ∷ []
  pub is : item.token ≡ token

-- the bytes of the byte order mark, U+FEFF
abbrev pub mark_bytes : List ℕ
mark_bytes = 0xEF ∷ 0xBB ∷ 0xBF ∷ []

-- Before the page's first character is whole, these bytes make the byte order mark whole, and `rest` stands behind it.
pub record HasMark (s : Scanning) (bytes rest : List ℕ) : Type 0 where
  pub first : s.started ≡ false
  pub part : length s.held < 3
  pub are : s.held ++ bytes ≡ mark_bytes ++ rest

-- what is skipped: the byte order mark, which is no token; a comment or an instruction; an empty CDATA section; and a line feed that is dropped
pub data Skips (drops : Bool) (s : Scanning) (bytes : List ℕ) (items : List Item) : Type 0 where
  a_mark : HasMark s bytes [] → items ≡ [] → Skips drops s bytes items
  a_comment : IsOne comment items → Skips drops s bytes items
  an_empty_section : IsOne (section []) items → Skips drops s bytes items
  a_line_feed : (item : Item) → drops ≡ true → items ≡ item ∷ [] → is_line_feed item.token ≡ true → Skips drops s bytes items

-- Where the bytes have the mark, it is what is skipped, and no token is complete.
abbrev pub MarkAlone : Bool → Scanning → List ℕ → List Item → Type 0
MarkAlone skipped s bytes items = (rest : List ℕ) → HasMark s bytes rest → (skipped ≡ true) × (items ≡ [])

-- the one token is this tag, at its place
pub record IsTag (the_tag : Tag) (first last : ℕ) (items : List Item) : Type 0 where
  pub item : Item
  pub one : items ≡ item ∷ []
  pub is : item.token ≡ tag the_tag
  pub first_is : item.first ≡ first
  pub last_is : item.last ≡ last

-- what the answer to some bytes tells of their tokens
abbrev pub TellsTokens : Bool → TokenKind → Scanning → List ℕ → List Item → Reading → Type 0
TellsTokens drops what.Nothing s bytes items new = items ≡ []
TellsTokens drops what.Text s bytes items new = (texts_of items ≡ Some new.text.text) × (new.text.text ≢ []) × (keeps_first drops items ≡ true)
TellsTokens drops what.Section s bytes items new = IsOne (section new.pending.run) items × (new.pending.run ≢ [])
TellsTokens drops what.Skipped s bytes items new = Skips drops s bytes items
TellsTokens drops what.Doctype s bytes items new = IsOne doctype items
TellsTokens drops what.Tag s bytes items new =
    IsTag (parts_of new.pending.tag.state) new.place.token new.end items × (is_last new.pending.tag.state.phase ≡ true) × (new.place.at ≡ new.end + 1)
    × (new.pending.mark ≡ mark.Nothing)

-- The setting after some tokens: what was to be dropped has come.
abbrev pub after_some : Setting → List Item → Setting
after_some setting items = if is_none_left items then setting else undropped setting

abbrev pub is_tag : TokenKind → Bool
is_tag what.Tag = true
is_tag _ = false

abbrev pub is_nothing : TokenKind → Bool
is_nothing what.Nothing = true
is_nothing _ = false

abbrev pub skips_token : TokenKind → Bool
skips_token what.Skipped = true
skips_token _ = false

-- after a start tag or a document type no document type may come
abbrev pub still_leads : TokenKind → Reading → Bool
still_leads what.Doctype v = false
still_leads what.Tag v = is_closing v.pending.tag.state.phase
still_leads _ v = true

abbrev pub setting_after : TokenKind → Reading → Setting → List Item → Setting
setting_after answer v setting items =
    let next = after_some setting items in
    record { syntax = next.syntax; limits = next.limits; inside = next.inside; leads = if still_leads answer v then next.leads else false; drops = next.drops }

-- The first n bytes of the piece were taken, and this was told.
pub record Took (old : Reading) (s : Scanning) (piece : List ℕ) (n : ℕ) (answer : TokenKind) (new : Reading) : Type 0 where
  pub fits : n ≤ length piece
  pub scanned : Scanned
  pub read : scan_from old.setting.syntax old.setting.limits (reading_spot old) s (take n piece) ≡ Ok scanned
  pub reads_as : ReadsAs new scanned.next
  pub tells : TellsTokens old.setting.drops answer s (take n piece) scanned.items new
  pub mark : MarkAlone (skips_token answer) s (take n piece) scanned.items
  pub setting : new.setting ≡ setting_after answer new old.setting scanned.items
  pub all : is_nothing answer ≡ true → n ≡ length piece
  pub some : is_nothing answer ≡ false → 0 < n

-- The next byte of the piece after some that neither complete a token nor have the byte order mark decides the fault.
pub record Faults (old : Reading) (s : Scanning) (piece : List ℕ) (fault : Fault) : Type 0 where
  pub n : ℕ
  pub byte : ℕ
  pub next : Scanning
  pub read : scan_from old.setting.syntax old.setting.limits (reading_spot old) s (take n piece) ≡ Ok (record { next = next; items = [] })
  pub unmarked : (rest : List ℕ) → HasMark s (take n piece) rest → ⊥
  pub here : slice_get piece n ≡ Some byte
  pub decides : read_byte old.setting.syntax old.setting.limits (reading_spot old) byte next ≡ Err fault.kind
  pub is : fault ≡ fault_in next fault.kind
  pub first : scan_from old.setting.syntax old.setting.limits (reading_spot old) s piece ≡ Err fault

abbrev pub Runs : Reading → Scanning → List ℕ → Result (ℕ × TokenKind) Stop → Reading → Type 0
Runs old s piece (Ok (n, answer)) new = Took old s piece n answer new
Runs old s piece (Err (stop.Fault fault)) new = Faults old s piece fault
Runs old s piece (Err stop.NoMemory) new = Unit {0}

-- the bytes that a text may have
abbrev pub room : ℕ
room = 4096

-- How much of the piece was taken: all of it where nothing is told, and else a byte at least.
pub record TakesSome (piece : List ℕ) (n : ℕ) (nothing : Bool) : Type 0 where
  pub fits : n ≤ length piece
  pub all : nothing ≡ true → n ≡ length piece
  pub some : nothing ≡ false → 0 < n

abbrev pub RunsTake : List ℕ → Result (ℕ × TokenKind) Stop → Type 0
RunsTake piece (Ok (n, answer)) = TakesSome piece n (is_nothing answer)
RunsTake piece (Err e) = Unit {0}

-- A tag that is lent is whole; else the next one may be read on.
abbrev pub MayLend : TokenKind → Reading → Type 0
MayLend what.Tag v = (is_last v.pending.tag.state.phase ≡ true) × (v.pending.mark ≡ mark.Nothing)
MayLend _ v = MayStep v.pending.tag

abbrev pub RunsReady : Result (ℕ × TokenKind) Stop → Reading → Type 0
RunsReady (Ok (n, answer)) new = MayLend answer new × (room ≤ new.text.room)
RunsReady (Err e) new = room ≤ new.text.room

-- what each scanner keeps: behind a fault it has taken the bytes before the one that decides it
pub record MayShow (answer : TokenKind) (stepped : Bool) (failed : Option Fault) (v : Reading) : Type 0 where
  pub lends : MayLend answer v
  pub room_is : room ≤ v.text.room
  pub first : stepped ≡ false → v.pending.mark ≡ mark.Nothing
  pub stays : (fault : Fault) → failed ≡ Some fault → fault.at ≡ v.place.at

-- a token other than text
abbrev pub is_token : TokenKind → Bool
is_token what.Nothing = false
is_token what.Text = false
is_token _ = true

-- text that was read before a fault is handed out first
abbrev pub stopped_at : Chars → ℕ → Stop → Result (ℕ × TokenKind) Stop
stopped_at text n (stop.Fault fault) = if is_empty text then Err (stop.Fault fault) else Ok (n, what.Text)
stopped_at text n stop.NoMemory = Err stop.NoMemory

-- neither `<` nor `&`
abbrev pub is_quiet : List ℕ → Bool
is_quiet piece = list_all (λ byte. not (byte == less_than_sign || byte == ampersand)) piece

-- a start or an end tag
abbrev pub shows_tag : shown.Token → Bool
shows_tag (token.Start t) = true
shows_tag (token.End t) = true
shows_tag _ = false

-- before a step: what the last one told is forgotten
pub record Prepared (old new : Scanner) : Type 0 where
  pub text : new.reading.text.text ≡ []
  pub size : new.reading.text.size ≡ 0
  pub setting : new.reading.setting ≡ old.reading.setting
  pub place : new.reading.place ≡ old.reading.place
  pub held : new.reading.held ≡ old.reading.held
  pub mark_is : new.reading.pending.mark ≡ old.reading.pending.mark
  pub run : new.reading.pending.run ≡ old.reading.pending.run
  pub tag : new.reading.pending.tag ≡ (if is_tag old.what then no_tag old.reading.pending.tag.syntax else old.reading.pending.tag)
  pub what_is : new.what ≡ what.Nothing
  pub stepped : new.stepped ≡ true
  pub failed : new.failed ≡ old.failed
  pub out_of_memory : new.out_of_memory ≡ old.out_of_memory
  pub may_step : MayStep new.reading.pending.tag
  pub between : is_tag old.what ≡ true → old.reading.pending.mark ≡ mark.Nothing

-- a fault lies behind the bytes that were taken
abbrev pub LiesThere : Stop → ℕ → Type 0
LiesThere (stop.Fault fault) at = fault.at ≡ at
LiesThere stop.NoMemory at = Unit {0}

-- after this nothing else is answered
abbrev pub FailsBy : Stop → Scanner → Scanner → Type 0
FailsBy (stop.Fault fault) old new =
    (new.failed ≡ Some fault) × (new.out_of_memory ≡ false) × (new.what ≡ old.what) × (new.stepped ≡ old.stepped) × (new.reading ≡ old.reading)
FailsBy stop.NoMemory old new = (new.out_of_memory ≡ true) × (new.what ≡ old.what) × (new.stepped ≡ old.stepped)

-- the first setting: nothing stands before the root
abbrev pub first_setting : Syntax → Limits → Setting
first_setting syntax limits = record { syntax = syntax; limits = limits; inside = content.Outside; leads = true; drops = false }

-- What the scanner shows is the answer of its last step.
abbrev pub ShowsTag : Reading → Bool → the.Tag → Type 0
ShowsTag v closing t = (tag_seen t ≡ parts_of v.pending.tag.state) × (t.token ≡ v.place.token) × (t.at ≡ v.end) × ((tag_seen t).closing ≡ closing)

abbrev pub Shows : TokenKind → Reading → shown.Token → Type 0
Shows what.Nothing v t = t ≡ token.More
Shows what.Skipped v t = t ≡ token.Skipped
Shows what.Doctype v t = t ≡ token.Doctype
Shows what.Text v (token.Text text) = chars text.now ≡ v.text.text
Shows what.Text v _ = ⊥
Shows what.Section v (token.Text text) = chars text.now ≡ v.pending.run
Shows what.Section v _ = ⊥
Shows what.Tag v (token.Start t) = ShowsTag v false t
Shows what.Tag v (token.End t) = ShowsTag v true t
Shows what.Tag v _ = ⊥

-- The tokens of the bytes are what is shown: none; a tag at its place; text of one or more tokens, of which the first one isn't a line feed
-- that is dropped; the document type; or one that is skipped.
abbrev pub Are : Bool → shown.Token → Scanning → List ℕ → List Item → Type 0
Are drops token.More s bytes items = items ≡ []
Are drops (token.Start t) s bytes items = IsTag (tag_seen t) t.token t.at items × ((tag_seen t).closing ≡ false)
Are drops (token.End t) s bytes items = IsTag (tag_seen t) t.token t.at items × ((tag_seen t).closing ≡ true)
Are drops (token.Text text) s bytes items = (texts_of items ≡ Some (chars text.now)) × (chars text.now ≢ []) × (keeps_first drops items ≡ true)
Are drops token.Doctype s bytes items = IsOne doctype items
Are drops token.Skipped s bytes items = Skips drops s bytes items

abbrev pub wants_more : shown.Token → Bool
wants_more token.More = true
wants_more _ = false

abbrev pub shows_skipped : shown.Token → Bool
shows_skipped token.Skipped = true
shows_skipped _ = false

-- after a start tag or a document type no document type may come
abbrev pub ends_leading : shown.Token → Bool
ends_leading (token.Start t) = true
ends_leading token.Doctype = true
ends_leading _ = false

abbrev pub setting_behind : shown.Token → Setting → List Item → Setting
setting_behind t setting items =
    let next = after_some setting items in
    record { syntax = next.syntax; limits = next.limits; inside = next.inside; leads = if ends_leading t then false else next.leads; drops = next.drops }

-- no byte was taken behind a tag's `>`
abbrev pub IsLast : shown.Token → ℕ → Type 0
IsLast (token.Start t) at = at ≡ t.at + 1
IsLast (token.End t) at = at ≡ t.at + 1
IsLast _ at = Unit {0}

-- A step that answers has taken the first n bytes of the piece, whose tokens are what it shows: none exactly at More and at the byte order mark,
-- which is shown by itself.
pub record Stepped (old : Scanner) (s : Scanning) (piece : List ℕ) (n : ℕ) (t : shown.Token) (new : Scanner) : Type 0 where
  pub fits : n ≤ length piece
  pub scanned : Scanned
  pub read : scan_from old.reading.setting.syntax old.reading.setting.limits (reading_spot old.reading) s (take n piece) ≡ Ok scanned
  pub stands : ScanStands new scanned.next
  pub are : Are old.reading.setting.drops t s (take n piece) scanned.items
  pub mark : MarkAlone (shows_skipped t) s (take n piece) scanned.items
  pub last : IsLast t scanned.next.at
  pub setting : new.reading.setting ≡ setting_behind t old.reading.setting scanned.items
  pub all : wants_more t ≡ true → n ≡ length piece
  pub some : wants_more t ≡ false → 0 < n

abbrev pub Steps : Scanner → Scanning → List ℕ → Result (ℕ × shown.Token) Stop → Scanner → Type 0
Steps old s piece (Ok r) new = Stepped old s piece r.0 r.1 new
Steps old s piece (Err (stop.Fault fault)) new = Faults old.reading s piece fault
Steps old s piece (Err stop.NoMemory) new = Unit {0}

-- Whatever it stands for: a step answers only where neither a fault nor want of memory was answered; a fault comes again, and want of memory. The
-- bytes taken are then those before the byte that decides the fault.
pub record StepAnswered (v : Scanner) (t : shown.Token) : Type 0 where
  pub unfailed : v.failed ≡ None
  pub unspent : v.out_of_memory ≡ false
  pub stepped : v.stepped ≡ true
  pub shows : Shows v.what v.reading t

abbrev pub KeepsStop : Scanner → List ℕ → Result (ℕ × shown.Token) Stop → Scanner → Type 0
KeepsStop old piece (Ok r) new = (old.failed ≡ None) × (old.out_of_memory ≡ false) × StepAnswered new r.1 × TakesSome piece r.0 (wants_more r.1)
KeepsStop old piece (Err (stop.Fault fault)) new =
    (old.out_of_memory ≡ false) × ((old.failed ≡ None) ⊎ (old.failed ≡ Some fault)) × (new.failed ≡ Some fault) × (new.out_of_memory ≡ false) × (new.what ≡ what.Nothing) × (new.stepped ≡ true) × (fault.at ≡ new.reading.place.at)
KeepsStop old piece (Err stop.NoMemory) new = ((old.out_of_memory ≡ true) ⊎ (old.failed ≡ None)) × (new.out_of_memory ≡ true) × (new.what ≡ what.Nothing) × (new.stepped ≡ true)

-- the same of the step within
abbrev pub KeepsOn : Scanner → List ℕ → Result ℕ Stop → Scanner → Type 0
KeepsOn old piece (Ok n) new =
    (old.failed ≡ None) × (old.out_of_memory ≡ false) × (new.failed ≡ None) × (new.out_of_memory ≡ false) × (new.stepped ≡ true) × TakesSome piece n (is_nothing new.what)
KeepsOn old piece (Err (stop.Fault fault)) new =
    (old.out_of_memory ≡ false) × ((old.failed ≡ None) ⊎ (old.failed ≡ Some fault)) × (new.failed ≡ Some fault) × (new.out_of_memory ≡ false) × (new.what ≡ what.Nothing) × (new.stepped ≡ true) × (fault.at ≡ new.reading.place.at)
KeepsOn old piece (Err stop.NoMemory) new = ((old.out_of_memory ≡ true) ⊎ (old.failed ≡ None)) × (new.out_of_memory ≡ true) × (new.what ≡ what.Nothing) × (new.stepped ≡ true)

abbrev pub Advances : Scanner → Scanning → List ℕ → Result ℕ Stop → Scanner → Type 0
Advances old s piece (Ok n) new = Took old.reading s piece n new.what new.reading
Advances old s piece (Err (stop.Fault fault)) new = Faults old.reading s piece fault
Advances old s piece (Err stop.NoMemory) new = Unit {0}

-- a content of the syntax
abbrev pub is_of_syntax : Syntax → Content → Bool
is_of_syntax Html content.Strict = false
is_of_syntax Html _ = true
is_of_syntax Xhtml content.Strict = true
is_of_syntax Xhtml content.Outside = true
is_of_syntax Xhtml _ = false

-- the last step answered a tag, or there was none
abbrev pub may_enter : Scanner → Bool
may_enter v = is_tag v.what || not v.stepped

abbrev pub moved_inside : Content → Bool → Scanner → Scanner
moved_inside inside drops v =
    record {
      reading = record {
        setting = record { syntax = v.reading.setting.syntax; limits = v.reading.setting.limits; inside = inside; leads = v.reading.setting.leads; drops = drops };
        place = v.reading.place;
        held = v.reading.held;
        pending = v.reading.pending;
        text = v.reading.text;
        end = v.reading.end;
      };
      what = v.what;
      stepped = v.stepped;
      failed = v.failed;
      out_of_memory = v.out_of_memory;
    }

-- no token is unfinished
pub record ScanIsWhole (s : Scanning) : Type 0 where
  pub run : s.run ≡ []
  pub held : s.held ≡ []

-- The end of the page: it is whole, or the fault, which comes again.
abbrev pub Finishes : Scanner → Result (Unit {0}) Stop → Scanner → Type 0
Finishes old (Ok done) new = (old.failed ≡ None) × (old.out_of_memory ≡ false) × (new ≡ old) × ((s : Scanning) → ScanStands old s → ScanIsWhole s)
Finishes old (Err (stop.Fault fault)) new =
    (old.out_of_memory ≡ false) × (new.failed ≡ Some fault) × (new.out_of_memory ≡ false) × (new.reading ≡ old.reading) × (new.what ≡ old.what) × (new.stepped ≡ old.stepped)
    × ((old.failed ≡ Some fault) ⊎ ((old.failed ≡ None) × ((s : Scanning) → ScanStands old s → (fault ≡ fault_in s Unended) × (ScanIsWhole s → ⊥))))
Finishes old (Err stop.NoMemory) new = (old.out_of_memory ≡ true) × (new ≡ old)

-- the tag that the last step answered
abbrev pub IsLastTag : Scanner → Option the.Tag → Type 0
IsLastTag v None = is_tag v.what ≡ false
IsLastTag v (Some t) = (is_tag v.what ≡ true) × ShowsTag v.reading (parts_of v.reading.pending.tag.state).closing t

-- What a step does to a scanner, whatever it stands for.
abbrev pub StepsOn : Scanner → List ℕ → Result (ℕ × shown.Token) Stop → Scanner → Type 0
StepsOn old piece result new = (s : Scanning) → ScanStands old s → Steps old s piece result new

-- text by itself takes no memory where no token is unfinished
abbrev pub IsQuiet : {A : Type 0} → Scanner → List ℕ → Result A Stop → Type 0
IsQuiet old piece result = (s : Scanning) → ScanStands old s → s.run ≡ [] → is_quiet piece ≡ true → IsNoMemory result ≡ false

-- and what is answered then is no tag
abbrev pub NoTagOfText : Scanner → List ℕ → Type 0 → Type 0
NoTagOfText old piece is_no_tag = (s : Scanning) → ScanStands old s → s.run ≡ [] → is_quiet piece ≡ true → is_no_tag
