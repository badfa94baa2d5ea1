-- How the tokens of a page nest, one after another: which elements stand open, and what each token begins, says and ends.
use Rattle.std.specs.Prelude.{◌≡◌, ℕ, Bool, true, false, not, ◌&&◌, List, [], ◌∷◌, ◌++◌, Option, Some, None, Result, Ok, Err, if◌then◌else◌}
use Rattle.rx_grammar.specs.Common.{Chars, Syntax, same, is_among, Tag, Token, tag, character, reference, kept, section, comment, doctype, is_alone, is_html, hides, drops_line_feed, StartTag, Tree, end, element, after_text, Item, is_line_feed, start_tag_of, enders, is_omissible, is_held, shown, Line, inside_of, parent_of, Phase, before, within, after, under_start, after_end, tag_rows, first_row}
use Rattle.rx_grammar.specs.declared.contents.Content.{Content}
use Rattle.rx_grammar.specs.declared.faults.Kind.{Kind}
use Rattle.rx_grammar.specs.declared.faults.Kind.TheVariants.{BadDoctype}

-- What is told of a page: an element begins, and whether what it holds is hidden; text; the innermost element ends.
pub data Event : Type 0 where
  begins : StartTag → Bool → Event
  says : Chars → Event
  finishes : Event

-- Between tokens: the open elements, how far the page has come, and whether a line feed that comes next is dropped.
pub record Nesting : Type 0 where
  pub line : Line
  pub phase : Phase
  pub drops : Bool

abbrev pub not_begun : Nesting
not_begun = record { line = []; phase = before false; drops = false }

-- the content that the next token is spelled in
abbrev pub content_at : Syntax → Nesting → Content
content_at syntax n = (inside_of syntax n.line).content

-- what a token leads to, and what it tells
pub record Step : Type 0 where
  pub next : Nesting
  pub events : List Event

-- the elements whose end tags are omitted before a start tag of this name in content Html, each with its end
abbrev pub ended_by_start : Syntax → Chars → Line → List Event
ended_by_start syntax name [] = []
ended_by_start syntax name (t ∷ above) = if is_among (enders (inside_of syntax above) t.name) name then finishes ∷ ended_by_start syntax name above else []

abbrev pub ended_under : Syntax → Chars → Line → List Event
ended_under syntax name line = if is_html (inside_of syntax line).content then ended_by_start syntax name line else []

-- the same before an end tag
abbrev pub ended_by_end : Syntax → Chars → Line → List Event
ended_by_end syntax name [] = []
ended_by_end syntax name (t ∷ above) =
    if is_omissible (inside_of syntax above) t.name && not (same t.name name) && not (is_held (parent_of above) t.name) then finishes ∷ ended_by_end syntax name above else []

-- the page is over when its last element ends
abbrev pub over : Line → Nesting
over [] = record { line = []; phase = after; drops = false }
over (t ∷ above) = record { line = t ∷ above; phase = within; drops = false }

-- an element begins under these open ones, and ends where it is its start tag alone
abbrev pub begun_under : Syntax → Item → Tag → Line → List Event → Step
begun_under syntax item t line ended =
    if is_alone syntax (inside_of syntax line) t then record {
      next =
          over line;
      events = ended ++ begins (start_tag_of item t) (hides (inside_of syntax line) t) ∷ finishes ∷ [];
    }
    else record { next = record { line = start_tag_of item t ∷ line; phase = within; drops = drops_line_feed (inside_of syntax line) t }; events = ended ++ begins (start_tag_of item t) (hides (inside_of syntax line) t) ∷ [] }

abbrev pub line_above : Line → Line
line_above [] = []
line_above (t ∷ above) = above

-- the step of a tag in which nothing is refused
abbrev pub tag_passes : Syntax → Line → Item → Tag → Step
tag_passes syntax line item t =
    if t.closing then record { next = over (line_above (after_end syntax t.name line)); events = ended_by_end syntax t.name line ++ finishes ∷ [] }
    else begun_under syntax item t (under_start syntax t.name line) (ended_under syntax t.name line)

abbrev pub unless_refused : Option Kind → Step → Result Step Kind
unless_refused None step = Ok step
unless_refused (Some kind) step = Err kind

abbrev pub going_on : Nesting → Nesting
going_on n = record { line = n.line; phase = n.phase; drops = false }

-- text in an element; outside the root it tells nothing
abbrev pub told : Phase → Chars → List Event
told within chars = says chars ∷ []
told other chars = []

abbrev pub text_step : Nesting → Bool → Chars → Step
text_step n is_dropped chars = record { next = going_on n; events = if n.drops && is_dropped then [] else told n.phase chars }

-- the document type stands once, before the root
abbrev pub doctype_step : Phase → Result Step Kind
doctype_step (before false) = Ok (record { next = record { line = []; phase = before true; drops = false }; events = [] })
doctype_step other = Err BadDoctype

abbrev pub step_by : Syntax → ℕ → Nesting → Item → Token → Result Step Kind
step_by syntax depth n item (tag t) = unless_refused (first_row (tag_rows syntax depth n.line n.phase t)) (tag_passes syntax n.line item t)
step_by syntax depth n item (character c) = Ok (text_step n (is_line_feed (character c)) (c ∷ []))
step_by syntax depth n item (reference c) = Ok (text_step n (is_line_feed (reference c)) (c ∷ []))
step_by syntax depth n item (kept chars) = Ok (text_step n false chars)
step_by syntax depth n item (section chars) = Ok (text_step n false chars)
step_by syntax depth n item comment = Ok (record { next = going_on n; events = [] })
step_by syntax depth n item doctype = doctype_step n.phase

-- the step of one token, or the fault that it decides
abbrev pub nest_step : Syntax → ℕ → Nesting → Item → Result Step Kind
nest_step syntax depth n item = step_by syntax depth n item item.token

-- The tokens, each spelled in the content at its place, lead to a place that is meant, and tell these events.
pub data Goes (syntax : Syntax) (depth : ℕ) (meant : Nesting → Type 0) : Nesting → List Item → List Event → Type 0 where
  stands : (n : Nesting) → meant n → Goes syntax depth meant n [] []
  goes : {n : Nesting} {items : List Item} {events : List Event} (item : Item) (step : Step) → item.content ≡ content_at syntax n
      → nest_step syntax depth n item ≡ Ok step → Goes syntax depth meant step.next items events
      → Goes syntax depth meant n (item ∷ items) (step.events ++ events)

-- Read from the last event to the first: the nodes that follow at each open level, the innermost first.
abbrev pub with_element : StartTag → Bool → List Tree → List Tree
with_element t hidden (inside ∷ nodes ∷ more) = element t (shown hidden inside) nodes ∷ more
with_element t hidden _ = []

abbrev pub with_text : Chars → List Tree → List Tree
with_text chars (nodes ∷ more) = after_text chars nodes ∷ more
with_text chars [] = []

abbrev pub told_trees : List Event → List Tree
told_trees [] = end ∷ []
told_trees (begins t hidden ∷ events) = with_element t hidden (told_trees events)
told_trees (says chars ∷ events) = with_text chars (told_trees events)
told_trees (finishes ∷ events) = end ∷ told_trees events

-- at these open elements, in this phase
pub record IsAt (line : Line) (phase : Phase) (n : Nesting) : Type 0 where
  pub line_is : n.line ≡ line
  pub phase_is : n.phase ≡ phase
