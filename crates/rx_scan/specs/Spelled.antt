-- What the bytes spell that a scanner takes, and why it refuses one, by the grammar alone: in whatever content of the syntax it was set.
use Rattle.std.specs.Prelude.{◌≡◌, ◌≢◌, ◌↔◌, ◌≤◌, ◌<◌, ◌+◌, ◌==◌, ◌&&◌, ◌||◌, not, ℕ, Bool, true, false, List, [], ◌∷◌, ◌++◌, length, take, encode_utf8_all, Result, Ok, Err, Some, None, if◌then◌else◌}
use Rattle.std.specs.Char.{len_utf8}
use Rattle.rx_grammar.specs.Common.{all_scalars, greater_than_sign, right_bracket, Chars, IsCharacter, BeginNone, Syntax, Token, doctype, Line, Phase, values, next_of, Item, Spelled, AllFit, is_literal, is_strict_literal, no_section_end, has_no_nul, IsPending, IsPart, Faulty, is_known_tag}
use Rattle.rx_chars.specs.Characters.{PlacedCharacter, byte_order_mark, as_line_end, placed, preprocessed}
use Rattle.rx_grammar.specs.declared.contents.Content.{Content}
use Rattle.rx_grammar.specs.declared.limits.Limits.{Limits}
use Rattle.rx_grammar.specs.declared.faults.Fault.{Fault}
use Rattle.rx_grammar.specs.declared.faults.Kind.{Kind}
use Rattle.rx_grammar.specs.declared.faults.Kind.TheVariants as kind
use Rattle.rx_grammar.specs.Spelling as grammar
use Rattle.rx_grammar.specs.PageFaults as faults
use Rattle.rx_pages.specs.PageReader.{Spot, Scanning, Scanned, token_at, scan_from}
use Rattle.rx_scan.specs.Scanner.{Scanner, reading_spot}
use Rattle.rx_scan.specs.Steps.{ScanStands, Steps, Are, is_of_syntax}
use Rattle.rx_scan.specs.declared.answers.Token as shown
use Rattle.rx_grammar.specs.declared.stops.Stop.{Stop}
use Rattle.rx_grammar.specs.declared.stops.Stop.TheVariants as stop
use Rattle.rx_terms.specs.Ascii.{carriage_return, line_feed}

-- The characters that are entered of these, where the next byte is at this offset: behind others, or as the page's first ones.
abbrev pub spelled_entries : Bool → Bool → ℕ → List ℕ → List PlacedCharacter
spelled_entries true after_return at characters = preprocessed after_return (placed at characters)
spelled_entries false after_return at [] = []
spelled_entries false after_return at (c ∷ characters) =
    if c == byte_order_mark then preprocessed false (placed (at + len_utf8 c) characters) else preprocessed after_return (placed at (c ∷ characters))

-- all stand in this content
abbrev pub AllInside : Content → List Item → Type 0
AllInside inside [] = Unit {0}
AllInside inside (item ∷ items) = (item.content ≡ inside) × AllInside inside items

-- whether the two tokens before are literal `]` of text in XHTML, and whether the last one is
abbrev pub brackets_behind : List Item → Bool → Bool → Bool × Bool
brackets_behind [] two last = (two, last)
brackets_behind (item ∷ items) two last = brackets_behind items (last && is_literal right_bracket item) (is_literal right_bracket item)

-- a document type stands only where one may come
abbrev pub MayCome : Bool → Token → Type 0
MayCome leads doctype = leads ≡ true
MayCome leads _ = Unit {0}

abbrev pub AllMayCome : Bool → List Item → Type 0
AllMayCome leads [] = Unit {0}
AllMayCome leads (item ∷ items) = MayCome leads item.token × AllMayCome leads items

-- each of these bytes, of which the first has this offset, stands before the limit
abbrev pub AllBefore : ℕ → ℕ → List ℕ → Type 0
AllBefore limit at [] = Unit {0}
AllBefore limit at (byte ∷ bytes) = (at < limit) × AllBefore limit (at + 1) bytes

-- there is a character
abbrev pub has_character : List ℕ → Bool
has_character [] = false
has_character (c ∷ characters) = true

-- the last character is a CR, or the one before all was
abbrev pub ends_in_return : Bool → List ℕ → Bool
ends_in_return before [] = before
ends_in_return before (c ∷ characters) = ends_in_return (c == carriage_return) characters

-- The bytes from this state on stand within the page's limit, and are whole characters, none of them U+0000, and a part of one. They spell these tokens in
-- this content, no tag among them too long; and what is left of them begins one, and is too long for no tag either. The state behind them has what is left,
-- its offset, and what is to be known of the characters and tokens before it: nothing else is open.
pub record ScanSpells (syntax : Syntax) (limits : Limits) (spot : Spot) (s : Scanning) (bytes : List ℕ) (scanned : Scanned) : Type 0 where
  pub characters : List ℕ
  pub part : List ℕ
  pub are : bytes ≡ encode_utf8_all characters ++ part
  pub scalars : all_scalars characters ≡ true
  pub within : AllBefore limits.page s.at bytes
  pub front : List PlacedCharacter
  pub read : front ++ scanned.next.run ≡ spelled_entries s.started s.after_return s.at characters
  pub no_nul : has_no_nul (front ++ scanned.next.run) ≡ true
  pub spelled : Spelled syntax front (next_of (values scanned.next.run) None) scanned.items
  pub inside_is : AllInside spot.inside scanned.items
  pub come : AllMayCome spot.leads scanned.items
  pub fit : AllFit limits.tag scanned.items
  pub sections : no_section_end scanned.items s.two s.last ≡ true
  pub pending : IsPending syntax spot.inside (values scanned.next.run)
  pub short : is_known_tag syntax spot.inside (values scanned.next.run) ≡ true → scanned.next.at ≤ token_at scanned.next + limits.tag
  pub is_part : IsPart part
  pub at_is : scanned.next.at ≡ s.at + length bytes
  pub part_is : scanned.next.held ≡ part
  pub started_is : scanned.next.started ≡ (s.started || has_character characters)
  pub return_is : scanned.next.after_return ≡ ends_in_return s.after_return characters
  pub two_is : scanned.next.two ≡ (brackets_behind scanned.items s.two s.last).0
  pub last_is : scanned.next.last ≡ (brackets_behind scanned.items s.two s.last).1

-- nothing is unfinished
pub record TokensAreWhole (s : Scanning) : Type 0 where
  pub run : s.run ≡ []
  pub held : s.held ≡ []

-- The run that a character stands behind: what is unfinished, or nothing where that was text that ended before the character.
pub data Left (syntax : Syntax) (inside : Content) (unfinished : Chars) (c : ℕ) : Chars → Type 0 where
  goes_on : Left syntax inside unfinished c unfinished
  is_over : (token : Token) → grammar.Spells syntax inside unfinished (Some c) token → Left syntax inside unfinished c []

-- a character that isn't entered there: a byte order mark at the front, or an LF after a CR
abbrev pub is_not_entered : Scanning → ℕ → Bool
is_not_entered next c = not next.started && c == byte_order_mark || next.after_return && c == line_feed

-- The byte stands before the page's limit and is the last one of a character that is entered.
pub record EntersCharacter (limits : Limits) (next : Scanning) (byte c : ℕ) : Type 0 where
  pub page : next.at < limits.page
  pub is : IsCharacter (next.held ++ byte ∷ []) c
  pub no_nul : c ≢ 0
  pub enters : is_not_entered next c ≡ false

-- what is known to be a tag, with this character at the latest, isn't too long through it
abbrev pub FitsWith : Syntax → Limits → Spot → Scanning → ℕ → Type 0
FitsWith syntax limits spot next c = is_known_tag syntax spot.inside (values next.run ++ as_line_end c ∷ []) ≡ true → next.at < token_at next + limits.tag

-- the characters are no token
abbrev pub IsNoToken : Syntax → Content → Chars → Type 0
IsNoToken syntax inside text = (token : Token) → grammar.Spells syntax inside text None token → ⊥

-- The byte behind this state decides a fault of this kind, whatever stands before and whichever elements are open: by a limit, as no character or as
-- U+0000, or by the grammar's rows. That `]]>` ends text of XHTML, and that a document type may not come, the tokens before tell. One kind at most is right.
pub data RefusesByte (syntax : Syntax) (limits : Limits) (spot : Spot) (next : Scanning) (byte : ℕ) : Kind → Type 0 where
  page_too_long : limits.page ≤ next.at → RefusesByte syntax limits spot next byte kind.PageTooLong
  not_utf8 : next.at < limits.page → BeginNone (next.held ++ byte ∷ []) → RefusesByte syntax limits spot next byte kind.NotUtf8
  nul : next.at < limits.page → IsCharacter (next.held ++ byte ∷ []) 0 → RefusesByte syntax limits spot next byte kind.Nul
  -- where the run is known to be a tag before it
  tag_too_long : next.at < limits.page → is_known_tag syntax spot.inside (values next.run) ≡ true → token_at next + limits.tag ≤ next.at
      → faults.GoesOn (next.held ++ byte ∷ []) → RefusesByte syntax limits spot next byte kind.TagTooLong
  -- the character at which it is known
  known_too_long : (c : ℕ) → EntersCharacter limits next byte c → is_known_tag syntax spot.inside (values next.run) ≡ false
      → is_known_tag syntax spot.inside (values next.run ++ as_line_end c ∷ []) ≡ true → token_at next + limits.tag ≤ next.at
      → RefusesByte syntax limits spot next byte kind.TagTooLong
  -- it completes no token
  decided : {found : Kind} (c : ℕ) (run : Chars) → EntersCharacter limits next byte c → FitsWith syntax limits spot next c
      → Left syntax spot.inside (values next.run) (as_line_end c) run → IsNoToken syntax spot.inside (run ++ as_line_end c ∷ [])
      → ((depth : ℕ) (items : List Item) (line : Line) (phase : Phase) → Faulty syntax depth items line phase spot.inside found (run ++ as_line_end c ∷ []))
      → RefusesByte syntax limits spot next byte found
  section_end : (c : ℕ) (token : Token) → EntersCharacter limits next byte c → FitsWith syntax limits spot next c
      → grammar.Spells syntax spot.inside (values next.run ++ as_line_end c ∷ []) None token → is_strict_literal greater_than_sign spot.inside token ≡ true
      → next.two ≡ true
      → RefusesByte syntax limits spot next byte kind.StrictText
  late_doctype : (c : ℕ) → EntersCharacter limits next byte c → FitsWith syntax limits spot next c
      → grammar.Spells syntax spot.inside (values next.run ++ as_line_end c ∷ []) None doctype → spot.leads ≡ false
      → RefusesByte syntax limits spot next byte kind.BadDoctype

-- The first of the bytes that decides a fault, with what the bytes before it spell.
pub record FirstFault (syntax : Syntax) (limits : Limits) (spot : Spot) (s : Scanning) (bytes : List ℕ) (fault : Fault) : Type 0 where
  pub front : List ℕ
  pub byte : ℕ
  pub rest : List ℕ
  pub are : bytes ≡ front ++ byte ∷ rest
  pub scanned : Scanned
  pub spells : ScanSpells syntax limits spot s front scanned
  pub refuses : RefusesByte syntax limits spot scanned.next byte fault.kind
  pub at_is : fault.at ≡ s.at + length front
  pub token_is : fault.token ≡ token_at scanned.next

-- law: and they are refused with exactly their first fault
abbrev pub RefusesWhatIsFaulty : Type 0
RefusesWhatIsFaulty = (syntax : Syntax) (limits : Limits) (spot : Spot) (s : Scanning) (bytes : List ℕ) (fault : Fault)
    → is_of_syntax syntax spot.inside ≡ true → TokensAreWhole s
    → (scan_from syntax limits spot s bytes ≡ Err fault) ↔ FirstFault syntax limits spot s bytes fault

-- A step's answer, where these bytes were taken since nothing was unfinished: its tokens are those that they spell; or its fault is theirs.
pub record StepSpells (v : Scanner) (first s : Scanning) (before piece : List ℕ) (n : ℕ) (t : shown.Token) (new : Scanner) : Type 0 where
  pub scanned : Scanned
  pub spells : ScanSpells v.reading.setting.syntax v.reading.setting.limits (reading_spot v.reading) first (before ++ take n piece) scanned
  pub are : Are v.reading.setting.drops t s (take n piece) scanned.items
  pub stands : ScanStands new scanned.next

abbrev pub StepAnswers : Scanner → Scanning → Scanning → List ℕ → List ℕ → Result (ℕ × shown.Token) Stop → Scanner → Type 0
StepAnswers v first s before piece (Ok r) new = StepSpells v first s before piece r.0 r.1 new
StepAnswers v first s before piece (Err (stop.Fault fault)) new =
    FirstFault v.reading.setting.syntax v.reading.setting.limits (reading_spot v.reading) first (before ++ piece) fault
StepAnswers v first s before piece (Err stop.NoMemory) new = Unit {0}

-- law: that holds of each step
abbrev pub StepsSpell : Type 0
StepsSpell =
    (v new : Scanner) (first s : Scanning) (before piece : List ℕ) (result : Result (ℕ × shown.Token) Stop)
    → is_of_syntax v.reading.setting.syntax v.reading.setting.inside ≡ true → TokensAreWhole first
    → scan_from v.reading.setting.syntax v.reading.setting.limits (reading_spot v.reading) first before ≡ Ok (record { next = s; items = [] })
    → Steps v s piece result new → StepAnswers v first s before piece result new

-- law: from where nothing is unfinished, exactly what is spelled is scanned
abbrev pub ScansWhatIsSpelled : Type 0
ScansWhatIsSpelled = (syntax : Syntax) (limits : Limits) (spot : Spot) (s : Scanning) (bytes : List ℕ) (scanned : Scanned)
    → is_of_syntax syntax spot.inside ≡ true → TokensAreWhole s
    → (scan_from syntax limits spot s bytes ≡ Ok scanned) ↔ ScanSpells syntax limits spot s bytes scanned
