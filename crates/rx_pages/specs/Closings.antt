-- How the front of a page goes on to a page: what is open is closed, from the innermost element on.
use Rattle.std.specs.Prelude.{◌≡◌, ℕ, ◌+◌, ◌<◌, ◌≤◌, Ok, List, [], ◌∷◌, ◌++◌, length, codes, Option, encode_utf8_all, if◌then◌else◌}
use Rattle.rx_grammar.specs.Common.{Chars, Syntax, Tree, Page, Line, Phase, Begun, is_before_root, Item, less_than_sign}
use Rattle.rx_grammar.specs.declared.limits.Limits.{Limits}
use Rattle.rx_pages.specs.Nesting.{Event, begins, says, finishes, Nesting, not_begun, Goes}
use Rattle.rx_pages.specs.PageReader.{Progress, page_read}

-- the end tag of a name
abbrev pub end_tag : Chars → Chars
end_tag name = codes "</" ++ (name ++ codes ">")

-- those of the open elements
abbrev pub end_tags : Line → Chars
end_tags [] = []
end_tags (t ∷ above) = end_tag t.name ++ end_tags above

-- What closes the front of a page: an empty root where none has begun, else an end tag for each open element.
abbrev pub closing : Line → Phase → Chars
closing line phase = if is_before_root phase then codes "<html></html>" else end_tags line

abbrev pub closed : List ℕ → Line → Phase → List ℕ
closed bytes line phase = bytes ++ encode_utf8_all (closing line phase)

-- limits of the same depth under which so many bytes are neither a tag nor a page that is too long
pub record IsWide (limits wide : Limits) (size : ℕ) : Type 0 where
  pub depth : wide.depth ≡ limits.depth
  pub tag : size ≤ wide.tag
  pub page : size ≤ wide.page

-- Apart from the limits of tag and page the bytes are a page.
pub record IsPage (syntax : Syntax) (limits : Limits) (bytes : List ℕ) : Type 0 where
  pub tree : Tree
  pub page : (wide : Limits) → IsWide limits wide (length bytes) → Page syntax wide bytes tree

-- The bytes are the front of a page, and closed they are a page.
pub record IsPageFront (syntax : Syntax) (limits : Limits) (bytes : List ℕ) : Type 0 where
  pub next : Option ℕ
  pub line : Line
  pub phase : Phase
  pub begun : Begun syntax limits bytes next line phase
  pub closes : 1 ≤ limits.depth → IsPage syntax limits (closed bytes line phase)

-- elements that begin have no attributes
abbrev pub Bare : List Event → Type 0
Bare [] = Unit {0}
Bare (begins t hides ∷ events) = (t.attributes ≡ []) × Bare events
Bare (says chars ∷ events) = Bare events
Bare (finishes ∷ events) = Bare events

-- tokens end before an offset
abbrev pub AllEnd : ℕ → List Item → Type 0
AllEnd end [] = Unit {0}
AllEnd end (item ∷ items) = (item.last < end) × AllEnd end items

-- the bytes are read, and tell this
pub record TellsEvents (syntax : Syntax) (limits : Limits) (bytes : List ℕ) (events : List Event) : Type 0 where
  pub now : Progress
  pub read : page_read syntax limits bytes ≡ Ok now
  pub told : now.told ≡ events

-- What the tokens of a page's front tell, once a `<` ends them; and what the front tells when it is closed: besides, that
-- elements end, and that one without attributes begins.
pub record ClosedTells (syntax : Syntax) (limits : Limits) (bytes : List ℕ) (line : Line) (phase : Phase) : Type 0 where
  pub items : List Item
  pub ends : AllEnd (length bytes) items
  pub place : Nesting
  pub events : List Event
  pub going : Goes syntax limits.depth (λ m. m ≡ place) not_begun items events
  pub front : length bytes + 1 ≤ limits.page → TellsEvents syntax limits (bytes ++ less_than_sign ∷ []) events
  pub more : List Event
  pub bare : Bare more
  pub tree : Tree
  pub page : (wide : Limits) → IsWide limits wide (length (closed bytes line phase)) → Page syntax wide (closed bytes line phase) tree
  pub whole : (wide : Limits) → IsWide limits wide (length (closed bytes line phase)) → TellsEvents syntax wide (closed bytes line phase) (events ++ more)
