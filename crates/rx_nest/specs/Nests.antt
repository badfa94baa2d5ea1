-- What a nest stands for, and what its calls answer of a page's bytes.
use Rattle.std.specs.Prelude.{◌≡◌, ◌≢◌, ◌⊎◌, ℕ, ◌+◌, ◌-◌, ◌≤◌, ◌<◌, Bool, true, false, List, [], ◌∷◌, ◌++◌, map, length, take, Option, Some, None, Result, Ok, Err}
use Rattle.rx_grammar.specs.Common.{chars, Chars, Syntax, Tree, StartTag, Item, Page, Line, Phase, Begun, FaultAt}
use Rattle.rx_grammar.specs.declared.faults.Fault.{Fault}
use Rattle.rx_grammar.specs.declared.faults.Kind.TheVariants.{Unended}
use Rattle.rx_grammar.specs.declared.limits.Limits.{Limits}
use Rattle.rx_grammar.specs.Tokens as tokens
use Rattle.rx_reader.specs.TagReader.{parts_of}
use Rattle.rx_pages.specs.Nesting as nesting
use Rattle.rx_pages.specs.Nesting.{Nesting, content_at}
use Rattle.rx_pages.specs.PageReader.{Scanning, Progress, PageReading, scan_from, spot_of, page_read, page_ended, may_lead}
use Rattle.rx_pages.specs.Closings.{IsPageFront}
use Rattle.rx_grammar.specs.declared.stops.Stop.{Stop}
use Rattle.rx_grammar.specs.declared.stops.Stop.TheVariants as stop
use Rattle.rx_tags.specs.declared.tags.Tag.{Tag}
use Rattle.rx_tags.specs.Seen.{tag_seen}
use Rattle.rx_scan.specs.declared.answers.TokenKind.{TokenKind}
use Rattle.rx_scan.specs.declared.answers.TokenKind.TheVariants as what
use Rattle.rx_scan.specs.declared.places.Setting.{Setting}
use Rattle.rx_scan.specs.Scanner.{Scanner}
use Rattle.rx_scan.specs.Steps as scan
use Rattle.rx_scan.specs.Entries.{IsNoMemory}
use Rattle.rx_scan.specs.Steps.{IsOne, MarkAlone, Skips, is_quiet, texts_of}
use Rattle.rx_nest.specs.declared.lines.TagAction.{TagAction}
use Rattle.rx_nest.specs.declared.lines.TagAction.TheVariants as own
use Rattle.rx_nest.specs.declared.tree_tokens.PendingEvents.{PendingEvents}
use Rattle.rx_nest.specs.declared.tree_tokens.TreeToken.{TreeToken}
use Rattle.rx_nest.specs.declared.tree_tokens.TreeToken.TheVariants as tree_token
use Rattle.rx_nest.specs.declared.tree_tokens.EventKind.{EventKind}
use Rattle.rx_nest.specs.declared.tree_tokens.EventKind.TheVariants as did
use Rattle.rx_nest.specs.declared.nests.Event.{Event}
use Rattle.rx_nest.specs.declared.nests.Event.TheVariants as event
use Rattle.rx_nest.specs.Lines.{Lines}
use Rattle.rx_nest.specs.Signs.{Sign, begun, said, finished, sees, nothing_seen, finishing, signs_of}
use Rattle.rx_nest.specs.Follows.{AreLevels, Follows, flags_of, own_signs}

-- the scanner, the open elements, what the last tag still tells, the fault that was answered, and want of memory
pub record Nested : Type 0 where
  pub scan : Scanner
  pub line : Lines
  pub owed : PendingEvents
  pub failed : Option Fault
  pub out_of_memory : Bool

-- a tag with its place
abbrev pub start_seen : tokens.Tag → ℕ → ℕ → StartTag
start_seen t token at = record { name = t.name; attributes = t.attributes; slash = t.slash; token = token; at = at }

abbrev pub tag_shown : Tag → StartTag
tag_shown t = start_seen (tag_seen t) t.token t.at

-- the tag, and the text, that the scanner told last
abbrev pub last_tag : Scanner → StartTag
last_tag v = start_seen (parts_of v.reading.pending.tag.state) v.reading.place.token v.reading.end

abbrev pub token_text : TokenKind → Scanner → Chars
token_text what.Section v = v.reading.pending.run
token_text _ v = v.reading.text.text

abbrev pub last_text : Scanner → Chars
last_text v = token_text v.what v

abbrev pub gives_text : TokenKind → Bool
gives_text what.Text = true
gives_text what.Section = true
gives_text _ = false

abbrev pub setting_of : Syntax → Limits → Nesting → Setting
setting_of syntax limits n = record { syntax = syntax; limits = limits; inside = content_at syntax n; leads = may_lead n.phase; drops = n.drops }

-- The scanner and the elements stand where these bytes lead, which tell these events.
pub record At (syntax : Syntax) (limits : Limits) (bytes : List ℕ) (told : List nesting.Event) (v : Scanner) (line : Lines) : Type 0 where
  pub now : PageReading
  pub read : page_read syntax limits bytes ≡ Ok (record { now = now; told = told })
  pub stands : scan.ScanStands v now.scan
  pub setting : v.reading.setting ≡ setting_of syntax limits now.nest
  pub follows : Follows line now.nest
  pub syntax_is : line.syntax ≡ syntax
  pub depth_is : line.depth ≡ limits.depth

-- they stand somewhere
pub record StandsSomewhere (v : Scanner) (line : Lines) : Type 0 where
  pub syntax : Syntax
  pub limits : Limits
  pub bytes : List ℕ
  pub told : List nesting.Event
  pub at : At syntax limits bytes told v line

-- what was heard shows
abbrev pub heard_signs : TreeToken → Scanner → List Sign
heard_signs tree_token.More v = []
heard_signs tree_token.Skipped v = []
heard_signs tree_token.Text v = map said (last_text v)
heard_signs (tree_token.Tag told) v = finishing told.ends ++ own_signs told.own (last_tag v)

-- the tag that is lent begins an element
pub record LendsStart (v : Scanner) : Type 0 where
  pub what_is : v.what ≡ what.Tag
  pub opening : (parts_of v.reading.pending.tag.state).closing ≡ false

-- a tag's own begins an element
abbrev pub begins_own : TagAction → Bool
begins_own own.Begin = true
begins_own own.Alone = true
begins_own _ = false

-- what is lent with it
abbrev pub Lends : TreeToken → Scanner → Type 0
Lends tree_token.More v = Unit {0}
Lends tree_token.Skipped v = Unit {0}
Lends tree_token.Text v = (gives_text v.what ≡ true) × (last_text v ≢ [])
Lends (tree_token.Tag told) v = begins_own told.own ≡ true → LendsStart v

abbrev pub is_tag_heard : TreeToken → Bool
is_tag_heard (tree_token.Tag told) = true
is_tag_heard _ = false

abbrev pub hears_more : TreeToken → Bool
hears_more tree_token.More = true
hears_more _ = false

abbrev pub hears_skipped : TreeToken → Bool
hears_skipped tree_token.Skipped = true
hears_skipped _ = false

-- What is told of the tokens that more bytes of a page complete, behind what stood before: the byte order mark among these bytes is all that they
-- have, and is skipped.
pub record Completes (syntax : Syntax) (limits : Limits) (bytes more : List ℕ) (skipped : Bool) (tells : Scanning → List ℕ → List Item → Type 0) : Type 0 where
  pub before : Progress
  pub read : page_read syntax limits bytes ≡ Ok before
  pub next : Scanning
  pub items : List Item
  pub completed : scan_from syntax limits (spot_of syntax before.now.nest) before.now.scan more ≡ Ok (record { next = next; items = items })
  pub are : tells before.now.scan more items
  pub mark : MarkAlone skipped before.now.scan more items

-- the one token is a tag
pub record IsATag (items : List Item) : Type 0 where
  pub the_tag : tokens.Tag
  pub is : IsOne (tokens.tag the_tag) items

-- Bytes of which the tree shows nothing: the byte order mark, a comment or whatever else the scanner skips; a document type; text outside the root
-- or that a template hides; and a tag that a template hides.
pub data Passes (s : Scanning) (bytes : List ℕ) (items : List Item) : Type 0 where
  a_skipped_one : (drops : Bool) → Skips drops s bytes items → Passes s bytes items
  a_doctype : IsOne tokens.doctype items → Passes s bytes items
  some_text : (text : Chars) → texts_of items ≡ Some text → text ≢ [] → Passes s bytes items
  a_tag : IsATag items → Passes s bytes items

-- a tag, or none where one was read before that still tells
pub data MayBeTag (items : List Item) : Type 0 where
  read_before : items ≡ [] → MayBeTag items
  read_now : IsATag items → MayBeTag items

-- the tokens of which this was heard
abbrev pub TokenOf : TreeToken → Scanner → Scanning → List ℕ → List Item → Type 0
TokenOf tree_token.More v s bytes items = items ≡ []
TokenOf tree_token.Skipped v s bytes items = Passes s bytes items
TokenOf tree_token.Text v s bytes items = texts_of items ≡ Some (last_text v)
TokenOf (tree_token.Tag told) v s bytes items = IsATag items

-- The first n bytes of the piece were read, and this was heard.
pub record Heeds (syntax : Syntax) (limits : Limits) (bytes : List ℕ) (told : List nesting.Event) (piece : List ℕ) (n : ℕ) (h : TreeToken) (old : Lines) (v : Scanner) (new : Lines) : Type 0 where
  pub fits : n ≤ length piece
  pub events : List nesting.Event
  pub at : At syntax limits (bytes ++ take n piece) (told ++ events) v new
  pub shows : (signs : List Sign)
      → sees (record { flags = flags_of old.levels; signs = signs }) events ≡ record { flags = flags_of new.levels; signs = signs ++ heard_signs h v }
  pub lends : Lends h v
  pub all : hears_more h ≡ true → n ≡ length piece
  pub tokens : Completes syntax limits bytes (take n piece) (hears_skipped h) (TokenOf h v)

-- no token is complete yet, and there is no byte order mark
abbrev pub NoneYet : Syntax → Limits → List ℕ → List ℕ → Type 0
NoneYet syntax limits bytes more = Completes syntax limits bytes more false (λ s bytes items. items ≡ [])

-- A byte of the piece decides the fault, and before it nothing is told.
pub record StopsInPiece (syntax : Syntax) (limits : Limits) (bytes : List ℕ) (told : List nesting.Event) (piece : List ℕ) (fault : Fault) : Type 0 where
  pub front : List ℕ
  pub byte : ℕ
  pub rest : List ℕ
  pub are : piece ≡ front ++ byte ∷ rest
  pub now : PageReading
  pub read : page_read syntax limits (bytes ++ front) ≡ Ok (record { now = now; told = told })
  pub here : page_read syntax limits (bytes ++ (front ++ byte ∷ [])) ≡ Err fault
  pub before : NoneYet syntax limits bytes front

abbrev pub NestReadGives : Syntax → Limits → List ℕ → List nesting.Event → List ℕ → Lines → Result (ℕ × TreeToken) Stop → Scanner → Lines → Type 0
NestReadGives syntax limits bytes told piece old (Ok r) v new = Heeds syntax limits bytes told piece r.0 r.1 old v new
NestReadGives syntax limits bytes told piece old (Err (stop.Fault fault)) v new = StopsInPiece syntax limits bytes told piece fault
NestReadGives syntax limits bytes told piece old (Err stop.NoMemory) v new = Unit {0}

-- a fault leaves the open elements as they were
abbrev pub StaysAtFault : {A : Type 0} → Result A Stop → Lines → Lines → Type 0
StaysAtFault (Ok a) old new = Unit {0}
StaysAtFault (Err (stop.Fault fault)) old new = new ≡ old
StaysAtFault (Err stop.NoMemory) old new = Unit {0}

-- how much of the piece was taken
abbrev pub ReadTakes : List ℕ → Result (ℕ × TreeToken) Stop → Type 0
ReadTakes piece (Ok r) = scan.TakesSome piece r.0 (hears_more r.1)
ReadTakes piece (Err e) = Unit {0}

abbrev pub owes_own : Option TagAction → StartTag → List Sign
owes_own None t = []
owes_own (Some o) t = own_signs o t

abbrev pub owed_signs : PendingEvents → StartTag → List Sign
owed_signs owed t = finishing owed.ends ++ owes_own owed.own t

-- an element is still to begin
abbrev pub owes_begin : Option TagAction → Bool
owes_begin None = false
owes_begin (Some o) = begins_own o

-- The nest stands for these bytes, of which these signs were shown.
pub record NestStands (syntax : Syntax) (limits : Limits) (v : Nested) (bytes : List ℕ) (signs : List Sign) : Type 0 where
  pub told : List nesting.Event
  pub at : At syntax limits bytes told v.scan v.line
  pub sight : sees nothing_seen told ≡ record { flags = flags_of v.line.levels; signs = signs ++ owed_signs v.owed (last_tag v.scan) }
  pub lends : owes_begin v.owed.own ≡ true → LendsStart v.scan
  pub unfailed : v.failed ≡ None
  pub unspent : v.out_of_memory ≡ false

-- what each nest keeps
abbrev pub NestReady : Scanner → Lines → PendingEvents → Option Fault → Bool → Type 0
NestReady v line owed failed out_of_memory = failed ≡ None → out_of_memory ≡ false → StandsSomewhere v line × (owes_begin owed.own ≡ true → LendsStart v)

-- what was done shows
abbrev pub did_signs : EventKind → Scanner → List Sign
did_signs did.More v = []
did_signs did.Skipped v = []
did_signs did.Begin v = begun (last_tag v) ∷ []
did_signs did.Text v = map said (last_text v)
did_signs did.Finish v = finished ∷ []

abbrev pub DidLends : EventKind → Scanner → Type 0
DidLends did.Begin v = LendsStart v
DidLends did.Text v = (gives_text v.what ≡ true) × (last_text v ≢ [])
DidLends _ v = Unit {0}

-- the tokens of which this was done
abbrev pub DidOf : EventKind → Scanner → Scanning → List ℕ → List Item → Type 0
DidOf did.More v s bytes items = items ≡ []
DidOf did.Skipped v s bytes items = Passes s bytes items
DidOf did.Begin v s bytes items = MayBeTag items
DidOf did.Text v s bytes items = texts_of items ≡ Some (last_text v)
DidOf did.Finish v s bytes items = MayBeTag items

abbrev pub did_more : EventKind → Bool
did_more did.More = true
did_more _ = false

abbrev pub did_skipped : EventKind → Bool
did_skipped did.Skipped = true
did_skipped _ = false

-- how many events the last tag still tells
abbrev pub own_left : Option TagAction → ℕ
own_left None = 0
own_left (Some own.Nothing) = 0
own_left (Some own.Begin) = 1
own_left (Some own.Finish) = 1
own_left (Some own.Alone) = 2

abbrev pub left : PendingEvents → ℕ
left owed = owed.ends + own_left owed.own

-- How much of the piece was taken. What is due is told first: then no byte is, and one event fewer is due. Where nothing is due all of the piece is
-- taken if there is nothing yet, behind which nothing is due either; and else a byte at least.
pub record TakesBytes (piece : List ℕ) (n : ℕ) (is_nothing : Bool) (old new : PendingEvents) : Type 0 where
  pub fits : n ≤ length piece
  pub all : is_nothing ≡ true → n ≡ length piece
  pub due : is_nothing ≡ true → (left old ≡ 0) × (left new ≡ 0)
  pub some : is_nothing ≡ false → (0 < n) ⊎ ((n ≡ 0) × (left new < left old))
  pub first : 0 < left old → (n ≡ 0) × (left old ≡ left new + 1)

-- Whatever it stands for: it answers only where neither a fault nor want of memory was answered; a fault comes again, and want of memory. A fault
-- leaves the open elements as they were.
abbrev pub NestKeepsOn : Nested → List ℕ → Result (ℕ × EventKind) Stop → Nested → Type 0
NestKeepsOn old piece (Ok r) new =
    (old.failed ≡ None) × (old.out_of_memory ≡ false) × (new.failed ≡ None) × (new.out_of_memory ≡ false) × TakesBytes piece r.0 (did_more r.1) old.owed new.owed
NestKeepsOn old piece (Err (stop.Fault fault)) new =
    (old.out_of_memory ≡ false) × ((old.failed ≡ None) ⊎ (old.failed ≡ Some fault)) × (new.failed ≡ Some fault) × (new.out_of_memory ≡ false) × (new.line ≡ old.line)
NestKeepsOn old piece (Err stop.NoMemory) new = ((old.out_of_memory ≡ true) ⊎ (old.failed ≡ None)) × (new.out_of_memory ≡ true)

-- this fault was answered, and is from then on
pub record Fallen (fault : Fault) (v : Nested) : Type 0 where
  pub failed : v.failed ≡ Some fault
  pub unspent : v.out_of_memory ≡ false

pub record Done (syntax : Syntax) (limits : Limits) (bytes : List ℕ) (signs : List Sign) (piece : List ℕ) (n : ℕ) (d : EventKind) (new : Nested) : Type 0 where
  pub fits : n ≤ length piece
  pub stands : NestStands syntax limits new (bytes ++ take n piece) (signs ++ did_signs d new.scan)
  pub lends : DidLends d new.scan
  pub all : did_more d ≡ true → n ≡ length piece
  pub passed : did_skipped d ≡ true → (0 < n) × (left new.owed ≡ 0)
  pub tokens : Completes syntax limits bytes (take n piece) (did_skipped d) (DidOf d new.scan)

-- A byte of the piece decides the page's fault, whatever follows the bytes through it; before it nothing is told of the piece, a token that the tree
-- doesn't show or the byte order mark neither; and what stands before the faulty token goes on to a page.
pub record NestFaults (syntax : Syntax) (limits : Limits) (bytes piece : List ℕ) (fault : Fault) : Type 0 where
  pub stays : (rest : List ℕ) → FaultAt syntax limits ((bytes ++ piece) ++ rest) fault
  pub decides : (rest : List ℕ) → FaultAt syntax limits (take (fault.at + 1) (bytes ++ piece) ++ rest) fault
  pub before : NoneYet syntax limits bytes (take (fault.at - length bytes) piece)
  pub from : length bytes ≤ fault.at
  pub within : fault.at < length (bytes ++ piece)
  pub front : IsPageFront syntax limits (take fault.token (bytes ++ piece))

-- Before the byte that decides the fault the page shows no more than these signs.
abbrev pub Unshown : Syntax → Limits → List ℕ → List Sign → List ℕ → Type 0
Unshown syntax limits bytes signs piece =
    (k : ℕ) (p : Progress) → page_read syntax limits (bytes ++ take k piece) ≡ Ok p → (sees nothing_seen p.told).signs ≡ signs

-- The open elements are those of the page's front before this offset.
pub record OpenBefore (syntax : Syntax) (limits : Limits) (bytes : List ℕ) (token : ℕ) (open_ones : Lines) : Type 0 where
  pub next : Option ℕ
  pub line : Line
  pub phase : Phase
  pub begun : Begun syntax limits (take token bytes) next line phase
  pub levels : AreLevels syntax open_ones.levels line
  pub depth : length open_ones.levels ≡ length line

abbrev pub FaultGives : Syntax → Limits → List ℕ → List Sign → List ℕ → Stop → Nested → Type 0
FaultGives syntax limits bytes signs piece (stop.Fault fault) new =
    NestFaults syntax limits bytes piece fault × Fallen fault new × Unshown syntax limits bytes signs piece × OpenBefore syntax limits (bytes ++ piece) fault.token new.line
FaultGives syntax limits bytes signs piece stop.NoMemory new = new.out_of_memory ≡ true

abbrev pub AdvanceGives : Syntax → Limits → List ℕ → List Sign → List ℕ → Result (ℕ × EventKind) Stop → Nested → Type 0
AdvanceGives syntax limits bytes signs piece (Ok r) new = Done syntax limits bytes signs piece r.0 r.1 new
AdvanceGives syntax limits bytes signs piece (Err stop) new = FaultGives syntax limits bytes signs piece stop new

-- what an event shows
abbrev pub event_signs : Event → List Sign
event_signs event.More = []
event_signs event.Skipped = []
event_signs (event.Begin t) = begun (tag_shown t) ∷ []
event_signs (event.Text text) = map said (chars text.now)
event_signs event.Finish = finished ∷ []

abbrev pub is_more : Event → Bool
is_more event.More = true
is_more _ = false

abbrev pub is_skipped : Event → Bool
is_skipped event.Skipped = true
is_skipped _ = false

-- text isn't empty, and the tag with which an element begins is no end tag
abbrev pub Speaks : Event → Type 0
Speaks (event.Text text) = chars text.now ≢ []
Speaks (event.Begin t) = (tag_seen t).closing ≡ false
Speaks _ = Unit {0}

-- the bytes and tokens of which an event tells: no token where there is nothing yet
abbrev pub TellsOf : Event → Scanning → List ℕ → List Item → Type 0
TellsOf event.More s bytes items = items ≡ []
TellsOf event.Skipped s bytes items = Passes s bytes items
TellsOf (event.Begin t) s bytes items = MayBeTag items
TellsOf (event.Text text) s bytes items = texts_of items ≡ Some (chars text.now)
TellsOf event.Finish s bytes items = MayBeTag items

-- the event is the last text
pub record IsLastText (v : Scanner) (e : Event) : Type 0 where
  pub signs_are : event_signs e ≡ did_signs did.Text v
  pub tells : (s : Scanning) (bytes : List ℕ) (items : List Item) → texts_of items ≡ Some (last_text v) → TellsOf e s bytes items

-- the event begins an element with the last tag
pub record Begins (v : Scanner) (e : Event) : Type 0 where
  pub signs_are : event_signs e ≡ did_signs did.Begin v
  pub speaks : Speaks e
  pub tells : (s : Scanning) (bytes : List ℕ) (items : List Item) → MayBeTag items → TellsOf e s bytes items

-- the event of what was done
abbrev pub ShowsEvent : EventKind → Scanner → Event → Type 0
ShowsEvent did.More v e = e ≡ event.More
ShowsEvent did.Skipped v e = e ≡ event.Skipped
ShowsEvent did.Finish v e = e ≡ event.Finish
ShowsEvent did.Begin v e = (is_more e ≡ false) × (LendsStart v → Begins v e)
ShowsEvent did.Text v e = (is_more e ≡ false) × (gives_text v.what ≡ true → IsLastText v e)

-- A step has taken the first n bytes of the piece, and shows what the page's tree has next. Of what it skips the tree shows nothing, and then
-- nothing is due.
pub record NestStepped (syntax : Syntax) (limits : Limits) (bytes : List ℕ) (signs : List Sign) (piece : List ℕ) (n : ℕ) (e : Event) (new : Nested) : Type 0 where
  pub fits : n ≤ length piece
  pub stands : NestStands syntax limits new (bytes ++ take n piece) (signs ++ event_signs e)
  pub speaks : Speaks e
  pub all : is_more e ≡ true → n ≡ length piece
  pub passed : is_skipped e ≡ true → (0 < n) × (left new.owed ≡ 0)
  pub tokens : Completes syntax limits bytes (take n piece) (is_skipped e) (TellsOf e)

abbrev pub NestStepGives : Syntax → Limits → List ℕ → List Sign → List ℕ → Result (ℕ × Event) Stop → Nested → Type 0
NestStepGives syntax limits bytes signs piece (Ok r) new = NestStepped syntax limits bytes signs piece r.0 r.1 new
NestStepGives syntax limits bytes signs piece (Err stop) new = FaultGives syntax limits bytes signs piece stop new

-- Whatever the nest stands for: it answers only where neither a fault nor want of memory was answered; a fault comes again, and want of memory. A
-- fault leaves the open elements as they were.
abbrev pub NestKeepsStop : Nested → List ℕ → Result (ℕ × Event) Stop → Nested → Type 0
NestKeepsStop old piece (Ok r) new =
    (old.failed ≡ None) × (old.out_of_memory ≡ false) × (new.failed ≡ None) × (new.out_of_memory ≡ false) × TakesBytes piece r.0 (is_more r.1) old.owed new.owed
NestKeepsStop old piece (Err (stop.Fault fault)) new =
    (old.out_of_memory ≡ false) × ((old.failed ≡ None) ⊎ (old.failed ≡ Some fault)) × (new.failed ≡ Some fault) × (new.out_of_memory ≡ false) × (new.line ≡ old.line)
NestKeepsStop old piece (Err stop.NoMemory) new = ((old.out_of_memory ≡ true) ⊎ (old.failed ≡ None)) × (new.out_of_memory ≡ true)

abbrev pub KeepsEnd : Nested → Result (Unit {0}) Stop → Nested → Type 0
KeepsEnd old (Ok done) new = (old.failed ≡ None) × (old.out_of_memory ≡ false) × (new ≡ old)
KeepsEnd old (Err (stop.Fault fault)) new =
    (old.out_of_memory ≡ false) × ((old.failed ≡ None) ⊎ (old.failed ≡ Some fault)) × (new.failed ≡ Some fault) × (new.out_of_memory ≡ false) × (new.line ≡ old.line)
KeepsEnd old (Err stop.NoMemory) new = (old.out_of_memory ≡ true) × (new ≡ old)

-- the end of the page's reading, by its fault if it has one
abbrev pub ReadingEndsWith : Syntax → Limits → List ℕ → List nesting.Event → Option Fault → Type 0
ReadingEndsWith syntax limits bytes told (Some fault) = page_ended (page_read syntax limits bytes) ≡ Err fault
ReadingEndsWith syntax limits bytes told None = (final : Progress) × (page_ended (page_read syntax limits bytes) ≡ Ok final) × (final.told ≡ told)

abbrev pub IfNoFault : Option Fault → Type 0 → Type 0
IfNoFault None holds = holds
IfNoFault (Some fault) holds = Unit {0}

-- The bytes are a page, and what was shown, with what is owed, is its tree.
pub record NestEnded (syntax : Syntax) (limits : Limits) (bytes : List ℕ) (signs : List Sign) (owed : List Sign) : Type 0 where
  pub tree : Tree
  pub page : Page syntax limits bytes tree
  pub shown : signs ++ owed ≡ signs_of tree

-- no token is unfinished behind these bytes
pub record IsBetween (syntax : Syntax) (limits : Limits) (bytes : List ℕ) : Type 0 where
  pub now : Progress
  pub read : page_read syntax limits bytes ≡ Ok now
  pub none : now.now.scan.run ≡ []

abbrev pub NestEndGives : Syntax → Limits → List ℕ → List Sign → Nested → Result (Unit {0}) Stop → Nested → Type 0
NestEndGives syntax limits bytes signs old (Ok done) new = NestEnded syntax limits bytes signs (owed_signs old.owed (last_tag old.scan))
NestEndGives syntax limits bytes signs old (Err (stop.Fault fault)) new = FaultAt syntax limits bytes fault × (fault.kind ≡ Unended) × (fault.at ≡ length bytes)
NestEndGives syntax limits bytes signs old (Err stop.NoMemory) new = ⊥

-- What a call does to a nest, whatever bytes it stands for.
abbrev pub NestAdvances : Nested → List ℕ → Result (ℕ × EventKind) Stop → Nested → Type 0
NestAdvances old piece result new =
    (syntax : Syntax) (limits : Limits) (bytes : List ℕ) (signs : List Sign) → NestStands syntax limits old bytes signs → AdvanceGives syntax limits bytes signs piece result new

abbrev pub NestSteps : Nested → List ℕ → Result (ℕ × Event) Stop → Nested → Type 0
NestSteps old piece result new =
    (syntax : Syntax) (limits : Limits) (bytes : List ℕ) (signs : List Sign) → NestStands syntax limits old bytes signs → NestStepGives syntax limits bytes signs piece result new

abbrev pub NestEnds : Nested → Result (Unit {0}) Stop → Nested → Type 0
NestEnds old result new =
    (syntax : Syntax) (limits : Limits) (bytes : List ℕ) (signs : List Sign) → NestStands syntax limits old bytes signs → NestEndGives syntax limits bytes signs old result new

-- a piece of text behind bytes in which no token is unfinished never wants memory
abbrev pub NestIsQuiet : {A : Type 0} → Nested → List ℕ → Result A Stop → Type 0
NestIsQuiet old piece result =
    (syntax : Syntax) (limits : Limits) (bytes : List ℕ) (signs : List Sign) → NestStands syntax limits old bytes signs
    → IsBetween syntax limits bytes → is_quiet piece ≡ true → IsNoMemory result ≡ false

-- the same of the scanner and the open elements by themselves
abbrev pub NestReads : Scanner → Lines → List ℕ → Result (ℕ × TreeToken) Stop → Scanner → Lines → Type 0
NestReads scan line piece result next new =
    (syntax : Syntax) (limits : Limits) (bytes : List ℕ) (told : List nesting.Event) → At syntax limits bytes told scan line
    → NestReadGives syntax limits bytes told piece line result next new

abbrev pub ReadsQuietly : Scanner → Lines → List ℕ → Result (ℕ × TreeToken) Stop → Type 0
ReadsQuietly scan line piece result =
    (syntax : Syntax) (limits : Limits) (bytes : List ℕ) (told : List nesting.Event) → At syntax limits bytes told scan line
    → IsBetween syntax limits bytes → is_quiet piece ≡ true → IsNoMemory result ≡ false

abbrev pub EndsAt : Scanner → Lines → Option Fault → Type 0
EndsAt scan line result =
    (syntax : Syntax) (limits : Limits) (bytes : List ℕ) (told : List nesting.Event) → At syntax limits bytes told scan line → ReadingEndsWith syntax limits bytes told result
