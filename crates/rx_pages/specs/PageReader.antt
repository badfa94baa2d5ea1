-- How the bytes of a page are read, one after another: which tokens a byte completes, and which fault it decides.
use Rattle.std.specs.Prelude.{ℕ, ◌+◌, ◌-◌, Bool, true, false, not, ◌&&◌, ◌||◌, ◌==◌, nat_le, List, [], ◌∷◌, ◌++◌, length, Result, Ok, Err, if◌then◌else◌}
use Rattle.rx_grammar.specs.Common.{right_bracket, greater_than_sign, Syntax, answer_of, Token, doctype, values, last_from, Item, is_literal, Phase, before, after, is_known_tag}
use Rattle.rx_chars.specs.declared.utf8.Utf8Step.{Utf8Step}
use Rattle.rx_chars.specs.declared.utf8.Utf8Step.TheVariants.{More, Char, Bad}
use Rattle.rx_chars.specs.Characters.{PlacedCharacter, byte_order_mark, as_line_end}
use Rattle.rx_grammar.specs.declared.contents.Content.{Content}
use Rattle.rx_grammar.specs.declared.faults.Fault.{Fault}
use Rattle.rx_grammar.specs.declared.faults.Kind.{Kind}
use Rattle.rx_grammar.specs.declared.faults.Kind.TheVariants.{BadDoctype, NotUtf8, Nul, PageTooLong, StrictText, TagTooLong, Unended}
use Rattle.rx_grammar.specs.declared.limits.Limits.{Limits}
use Rattle.rx_pages.specs.Nesting.{Event, Nesting, not_begun, content_at, Step, nest_step}
use Rattle.rx_pages.specs.Scanner.{Verdict, goes_on, whole, ended, refused, verdict}
use Rattle.rx_terms.specs.Ascii.{carriage_return, line_feed}

-- Where a token may stand: the content that it is spelled in, and whether a document type may still come.
pub record Spot : Type 0 where
  pub inside : Content
  pub leads : Bool

-- After some bytes: how many there were; those of a character that isn't whole; whether a character was read, and whether the last one was
-- a CR; the characters since the last token; and whether the two tokens before them, and the last one, were `]` in text of XHTML.
pub record Scanning : Type 0 where
  pub at : ℕ
  pub held : List ℕ
  pub started : Bool
  pub after_return : Bool
  pub run : List PlacedCharacter
  pub two : Bool
  pub last : Bool

abbrev pub no_bytes : Scanning
no_bytes = record { at = 0; held = []; started = false; after_return = false; run = []; two = false; last = false }

-- the offset of the first byte that belongs to no whole token, where these characters belong to none
abbrev pub first_of : List PlacedCharacter → ℕ → ℕ
first_of [] at = at
first_of (entry ∷ run) at = entry.first

-- where the character begins whose last byte comes next
abbrev pub starts_at : Scanning → ℕ
starts_at s = s.at - length s.held

abbrev pub token_at : Scanning → ℕ
token_at s = first_of s.run (starts_at s)

-- the next byte decides a fault
abbrev pub fault_in : Scanning → Kind → Fault
fault_in s kind = record { kind = kind; token = token_at s; at = s.at }

-- what a byte leads to: the state after it, and the tokens that it completes
pub record Scanned : Type 0 where
  pub next : Scanning
  pub items : List Item

-- the byte belongs to a character that isn't whole
abbrev pub holding : List ℕ → Scanning → Scanning
holding held s = record { at = s.at + 1; held = held; started = s.started; after_return = s.after_return; run = s.run; two = s.two; last = s.last }

-- the byte ends a character that isn't entered: a byte order mark, or an LF after a CR
abbrev pub passed_over : Scanning → Scanning
passed_over s = record { at = s.at + 1; held = []; started = true; after_return = false; run = s.run; two = s.two; last = s.last }

-- the byte ends a character that is entered, after which this run is left
abbrev pub entering : Bool → List PlacedCharacter → Bool → Bool → Scanning → Scanning
entering after_return run two last s = record { at = s.at + 1; held = []; started = true; after_return = after_return; run = run; two = two; last = last }

-- the characters of a run with its place
abbrev pub item_of_run : Content → Token → List PlacedCharacter → Item
item_of_run inside token [] = record { token = token; content = inside; first = 0; last = 0 }
item_of_run inside token (entry ∷ run) = record { token = token; content = inside; first = entry.first; last = last_from entry.last run }

abbrev pub is_doctype : Token → Bool
is_doctype doctype = true
is_doctype _ = false

-- the tag has more bytes than the limit, through the one at `at`
abbrev pub is_too_long : Syntax → Limits → Spot → List PlacedCharacter → ℕ → ℕ → Bool
is_too_long syntax limits spot run token at = is_known_tag syntax spot.inside (values run) && nat_le (token + limits.tag) at

module _ (syntax : Syntax) (limits : Limits) (spot : Spot) where
  -- the token that the entry completes is whole with it
  abbrev pub completed : Bool → Item → Scanning → Result Scanned Kind
  completed after_return item s =
      if s.two && is_literal greater_than_sign item then Err StrictText
      else if is_doctype item.token && not spot.leads then Err BadDoctype
      else Ok (record { next = entering after_return [] (s.last && is_literal right_bracket item) (is_literal right_bracket item) s; items = item ∷ [] })

  -- what the entry says, where no token ends before it
  abbrev pub told_first : Bool → PlacedCharacter → Scanning → Verdict → Result Scanned Kind
  told_first after_return entry s goes_on = Ok (record { next = entering after_return (s.run ++ entry ∷ []) s.two s.last s; items = [] })
  told_first after_return entry s (whole token) = completed after_return (item_of_run spot.inside token (s.run ++ entry ∷ [])) s
  told_first after_return entry s (ended token) = Ok (record { next = entering after_return (entry ∷ []) false false s; items = [] })
  told_first after_return entry s (refused kind) = Err kind

  -- the token that the entry tells stands before the others
  abbrev pub with_item : Item → Result Scanned Kind → Result Scanned Kind
  with_item item (Ok r) = Ok (record { next = r.next; items = item ∷ r.items })
  with_item item (Err kind) = Err kind

  -- no character since the last token, which was no literal one
  abbrev pub after_token : Scanning → Scanning
  after_token s = record { at = s.at; held = s.held; started = s.started; after_return = s.after_return; run = []; two = false; last = false }

  abbrev pub told : Bool → PlacedCharacter → Scanning → Verdict → Result Scanned Kind
  told after_return entry s (ended token) =
      with_item (item_of_run spot.inside token s.run) (told_first after_return entry (after_token s) (verdict syntax spot.inside [] entry.value))
  told after_return entry s other = told_first after_return entry s other

  abbrev pub read_entry : Bool → PlacedCharacter → Scanning → Result Scanned Kind
  read_entry after_return entry s =
      if is_too_long syntax limits spot (s.run ++ entry ∷ []) (first_of s.run entry.first) entry.last then Err TagTooLong
      else told after_return entry s (verdict syntax spot.inside (values s.run) entry.value)

  -- a whole character
  abbrev pub read_char : ℕ → Scanning → Result Scanned Kind
  read_char c s =
      if not s.started && c == byte_order_mark || s.after_return && c == line_feed then Ok (record { next = passed_over s; items = [] })
      else read_entry (c == carriage_return) (record { value = as_line_end c; first = starts_at s; last = s.at }) s

  -- a byte of a character, once the limits of page and tag are kept
  abbrev pub read_answer : List ℕ → Scanning → Utf8Step → Result Scanned Kind
  read_answer held s Bad = Err NotUtf8
  read_answer held s More =
      if is_too_long syntax limits spot s.run (token_at s) s.at then Err TagTooLong else Ok (record { next = holding held s; items = [] })
  read_answer held s (Char c) =
      if c == 0 then Err Nul else if is_too_long syntax limits spot s.run (token_at s) s.at then Err TagTooLong else read_char c s

  -- one more byte, or the kind of the fault that it decides
  abbrev pub read_byte : ℕ → Scanning → Result Scanned Kind
  read_byte byte s = if nat_le limits.page s.at then Err PageTooLong else read_answer (s.held ++ byte ∷ []) s (answer_of (s.held ++ byte ∷ []))

-- what these bytes lead to where the spot stays, or the first fault that one of them decides
abbrev pub with_items : Scanning → List Item → Result Scanned Kind → Result Scanned Fault
with_items s items (Ok scanned) = Ok (record { next = scanned.next; items = items ++ scanned.items })
with_items s items (Err kind) = Err (fault_in s kind)

abbrev pub scan_byte_on : Syntax → Limits → Spot → Result Scanned Fault → ℕ → Result Scanned Fault
scan_byte_on syntax limits spot (Ok scanned) byte = with_items scanned.next scanned.items (read_byte syntax limits spot byte scanned.next)
scan_byte_on syntax limits spot (Err fault) byte = Err fault

abbrev pub scan_on : Syntax → Limits → Spot → Result Scanned Fault → List ℕ → Result Scanned Fault
scan_on syntax limits spot reached [] = reached
scan_on syntax limits spot reached (byte ∷ bytes) = scan_on syntax limits spot (scan_byte_on syntax limits spot reached byte) bytes

abbrev pub scan_from : Syntax → Limits → Spot → Scanning → List ℕ → Result Scanned Fault
scan_from syntax limits spot s bytes = scan_on syntax limits spot (Ok (record { next = s; items = [] })) bytes

-- After some bytes of a page: the characters since the last token, and the elements that are open.
pub record PageReading : Type 0 where
  pub scan : Scanning
  pub nest : Nesting

abbrev pub no_page : PageReading
no_page = record { scan = no_bytes; nest = not_begun }

-- a document type may come before the root, once
abbrev pub may_lead : Phase → Bool
may_lead (before false) = true
may_lead other = false

abbrev pub spot_of : Syntax → Nesting → Spot
spot_of syntax n = record { inside = content_at syntax n; leads = may_lead n.phase }

-- what some tokens lead to and tell, or the first fault among them
abbrev pub with_events : List Event → Result Step Kind → Result Step Kind
with_events events (Ok step) = Ok (record { next = step.next; events = events ++ step.events })
with_events events (Err kind) = Err kind

abbrev pub nest_step_on : Syntax → ℕ → Result Step Kind → Item → Result Step Kind
nest_step_on syntax depth (Ok step) item = with_events step.events (nest_step syntax depth step.next item)
nest_step_on syntax depth (Err kind) item = Err kind

abbrev pub steps_on : Syntax → ℕ → Result Step Kind → List Item → Result Step Kind
steps_on syntax depth reached [] = reached
steps_on syntax depth reached (item ∷ items) = steps_on syntax depth (nest_step_on syntax depth reached item) items

abbrev pub no_step : Nesting → Step
no_step n = record { next = n; events = [] }

-- what has been read of a page, and what was told of it
pub record Progress : Type 0 where
  pub now : PageReading
  pub told : List Event

abbrev pub progress_of : Scanning → Scanning → Result Step Kind → Result Progress Fault
progress_of s next (Ok step) = Ok (record { now = record { scan = next; nest = step.next }; told = step.events })
progress_of s next (Err kind) = Err (fault_in s kind)

abbrev pub nested_items : Syntax → ℕ → PageReading → Result Scanned Kind → Result Progress Fault
nested_items syntax depth r (Ok scanned) = progress_of r.scan scanned.next (steps_on syntax depth (Ok (no_step r.nest)) scanned.items)
nested_items syntax depth r (Err kind) = Err (fault_in r.scan kind)

-- one more byte of a page, or the fault that it decides
abbrev pub page_byte : Syntax → Limits → PageReading → ℕ → Result Progress Fault
page_byte syntax limits r byte = nested_items syntax limits.depth r (read_byte syntax limits (spot_of syntax r.nest) byte r.scan)

abbrev pub telling : List Event → Result Progress Fault → Result Progress Fault
telling events (Ok p) = Ok (record { now = p.now; told = events ++ p.told })
telling events (Err fault) = Err fault

abbrev pub page_byte_on : Syntax → Limits → Result Progress Fault → ℕ → Result Progress Fault
page_byte_on syntax limits (Ok p) byte = telling p.told (page_byte syntax limits p.now byte)
page_byte_on syntax limits (Err fault) byte = Err fault

abbrev pub page_on : Syntax → Limits → Result Progress Fault → List ℕ → Result Progress Fault
page_on syntax limits reached [] = reached
page_on syntax limits reached (byte ∷ bytes) = page_on syntax limits (page_byte_on syntax limits reached byte) bytes

abbrev pub no_progress : Progress
no_progress = record { now = no_page; told = [] }

-- what these bytes of a page lead to, or the first fault that one of them decides
abbrev pub page_read : Syntax → Limits → List ℕ → Result Progress Fault
page_read syntax limits bytes = page_on syntax limits (Ok no_progress) bytes

abbrev pub is_over : Phase → Bool
is_over after = true
is_over other = false

abbrev pub is_none_left : {A : Type 0} → List A → Bool
is_none_left [] = true
is_none_left (x ∷ xs) = false

-- a page may end there
abbrev pub page_may_end : PageReading → Bool
page_may_end r = is_none_left r.scan.held && is_none_left r.scan.run && is_over r.nest.phase

-- the end of a page
abbrev pub page_ended : Result Progress Fault → Result Progress Fault
page_ended (Ok p) = if page_may_end p.now then Ok p else Err (fault_in p.now.scan Unended)
page_ended (Err fault) = Err fault
