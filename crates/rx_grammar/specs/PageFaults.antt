-- The one fault of bytes that are no page.
use Rattle.std.specs.Prelude.{◌≡◌, ◌≢◌, ℕ, ◌+◌, ◌≤◌, ◌<◌, ◌⊎◌, Bool, true, false, not, ◌||◌, ◌&&◌, ◌==◌, nat_le, List, [], ◌∷◌, ◌++◌, length, take, drop, codes, Option, Some, None, if◌then◌else◌}
use Rattle.rx_terms.specs.Common.{list_any, ampersand, solidus, less_than_sign, greater_than_sign, is_white_space, right_bracket, Chars, lowered, begins_with}
use Rattle.rx_chars.specs.Utf8.{IsCharacter, BeginsCharacter, BeginNone}
use Rattle.rx_chars.specs.Characters.{IsRead, PlacedCharacter}
use Rattle.rx_chars.specs.declared.syntax.Syntax.{Syntax}
use Rattle.rx_chars.specs.declared.syntax.Syntax.TheVariants.{Html, Xhtml}
use Rattle.rx_grammar.specs.declared.contents.Content.{Content}
use Rattle.rx_grammar.specs.declared.contents.Content.TheVariants as content
use Rattle.rx_grammar.specs.declared.faults.Fault.{Fault}
use Rattle.rx_grammar.specs.declared.faults.Kind.{Kind}
use Rattle.rx_grammar.specs.declared.faults.Kind.TheVariants as kind
use Rattle.rx_grammar.specs.declared.limits.Limits.{Limits}
use Rattle.rx_grammar.specs.Names.{same, is_among}
use Rattle.rx_grammar.specs.References.{is_begun}
use Rattle.rx_grammar.specs.Tokens.{Tag, Token, tag}
use Rattle.rx_grammar.specs.Shapes.{begins_tag, ends_name, begins}
use Rattle.rx_grammar.specs.Tags.{cased}
use Rattle.rx_grammar.specs.TagFaults.{RunFault, BeginsTag, TagFault}
use Rattle.rx_grammar.specs.Spelling.{exclamation_mark, ends_with, IsFirst, has_markup, has_references, begins_markup, raw_name, doctype_word, IsDoctype, Spells}
use Rattle.rx_grammar.specs.Contents.{is_html, is_plaintext, is_self_closed}
use Rattle.rx_grammar.specs.Items.{values, next_of, Item, Spelled, AllFit, no_section_end, is_literal}
use Rattle.rx_grammar.specs.Omission.{enders, is_omissible, is_held}
use Rattle.rx_grammar.specs.Pages.{has_no_nul, root_name}
use Rattle.rx_grammar.specs.Begun.{Line, inside_of, parent_of, Phase, before, after, Stands}

-- what an end tag begins with in raw text: `/`, the name in any case, and a character that ends it
abbrev pub is_known_end : Chars → Chars → Bool
is_known_end name text = same (lowered (take (length name + 1) text)) (solidus ∷ name) && begins ends_name (drop (length name + 1) text)

abbrev pub is_known_raw : Option Chars → Chars → Bool
is_known_raw None text = false
is_known_raw (Some name) text = is_known_end name text

-- A run is known to be a tag at the character that begins a name after `<`, or at the `/` of `</`; in raw text at the character after its name.
abbrev pub is_known_after : Syntax → Content → Chars → Bool
is_known_after syntax inside text = if has_markup inside then begins (λ c. c == solidus || begins_tag syntax c) text else is_known_raw (raw_name inside) text

abbrev pub is_known_tag : Syntax → Content → Chars → Bool
is_known_tag syntax inside [] = false
is_known_tag syntax inside (c ∷ text) = c == less_than_sign && is_known_after syntax inside text

-- XML 1.0, 2.1: what may stand after `<` beside a name
abbrev pub openings : List Chars
openings = codes "/" ∷ codes "?" ∷ codes "!--" ∷ codes "![CDATA[" ∷ codes "!DOCTYPE" ∷ []

-- one of them begins with the text, or the text with one
abbrev pub meets_opening : Chars → Bool
meets_opening text = list_any (λ opening. begins_with text opening || begins_with opening text) openings

-- the text begins one of them and is none yet
abbrev pub is_opening_begun : Chars → Bool
is_opening_begun text = list_any (λ opening. begins_with text opening) openings && not (list_any (λ opening. begins_with opening text) openings)

-- These characters begin a token and aren't yet one.
pub data Unfinished (syntax : Syntax) (inside : Content) : Chars → Type 0 where
  token_begun : (c d : ℕ) (run rest : Chars) {next : Option ℕ} (token : Token) → Spells syntax inside (c ∷ (run ++ d ∷ rest)) next token
      → Unfinished syntax inside (c ∷ run)
  tag_begun : (text : Chars) → is_known_tag syntax inside (less_than_sign ∷ text) ≡ true → BeginsTag syntax text
      → Unfinished syntax inside (less_than_sign ∷ text)
  run_begun : (run : Chars) → has_references inside ≡ true → is_begun run ≡ true → Unfinished syntax inside (ampersand ∷ run)
  opening_begun : (text : Chars) → syntax ≡ Xhtml → has_markup inside ≡ true → is_opening_begun text ≡ true → Unfinished syntax inside (less_than_sign ∷ text)

-- nothing is left, or what begins a token
abbrev pub IsPending : Syntax → Content → Chars → Type 0
IsPending syntax inside run = (run ≡ []) ⊎ Unfinished syntax inside run

-- The open elements that stay open where a start tag of this name comes in content Html: it first ends those, from the innermost on, whose row has the name.
abbrev pub after_start : Syntax → Chars → Line → Line
after_start syntax name [] = []
after_start syntax name (t ∷ above) = if is_among (enders (inside_of syntax above) t.name) name then after_start syntax name above else t ∷ above

abbrev pub under_start : Syntax → Chars → Line → Line
under_start syntax name line = if is_html (inside_of syntax line).content then after_start syntax name line else line

-- The same for an end tag: it first ends those of other names whose end tags may be omitted before it.
abbrev pub after_end : Syntax → Chars → Line → Line
after_end syntax name [] = []
after_end syntax name (t ∷ above) =
    if is_omissible (inside_of syntax above) t.name && not (same t.name name) && not (is_held (parent_of above) t.name) then after_end syntax name above else t ∷ above

abbrev pub is_innermost : Chars → Line → Bool
is_innermost name [] = false
is_innermost name (t ∷ above) = same t.name name

abbrev pub has_ended : Phase → Bool
has_ended after = true
has_ended _ = false

abbrev pub is_before_root : Phase → Bool
is_before_root (before stood) = true
is_before_root _ = false

abbrev pub is_no_line : Line → Bool
is_no_line [] = true
is_no_line (t ∷ above) = false

abbrev pub Rows : Type 0
Rows = List (Bool × Kind)

-- the first row that holds
abbrev pub first_row : Rows → Option Kind
first_row [] = None
first_row (row ∷ rows) = if row.0 then Some row.1 else first_row rows

-- The faults of a whole start tag, in their order.
abbrev pub start_rows : Syntax → ℕ → Line → Phase → Tag → Rows
start_rows syntax depth line phase t =
    (has_ended phase, kind.Outside)
    ∷ (is_before_root phase && not (same t.name root_name), kind.RootNotHtml)
    ∷ (is_plaintext syntax (inside_of syntax line) t, kind.Plaintext)
    ∷ (is_self_closed syntax (inside_of syntax line) t, kind.SelfClosed)
    ∷ (nat_le depth (length (under_start syntax t.name line)), kind.TooDeep)
    ∷ []

-- those of a whole end tag
abbrev pub end_rows : Syntax → Line → Tag → Rows
end_rows syntax line t = (is_no_line line, kind.NothingOpen) ∷ (not (is_innermost t.name (after_end syntax t.name line)), kind.Mismatch) ∷ []

abbrev pub tag_rows : Syntax → ℕ → Line → Phase → Tag → Rows
tag_rows syntax depth line phase t = if t.closing then end_rows syntax line t else start_rows syntax depth line phase t

-- the tokens end with two literal `]` of text in XHTML
abbrev pub ends_in_brackets : List Item → Bool
ends_in_brackets [] = false
ends_in_brackets (a ∷ []) = false
ends_in_brackets (a ∷ b ∷ []) = is_literal right_bracket a && is_literal right_bracket b
ends_in_brackets (a ∷ b ∷ c ∷ items) = ends_in_brackets (b ∷ c ∷ items)

-- the text after `<!` begins a document type, or none does
pub record BeginsDoctype (syntax : Syntax) (text : Chars) : Type 0 where
  pub c : ℕ
  pub rest : Chars
  pub is_doctype : IsDoctype syntax (text ++ c ∷ rest)

abbrev pub BeginsNoDoctype : Syntax → Chars → Type 0
BeginsNoDoctype syntax text = (rest : Chars) → IsDoctype syntax (text ++ rest) → ⊥

-- After these tokens, with these elements open, the characters of the next token through the last one, which decides its fault.
pub data Faulty (syntax : Syntax) (depth : ℕ) (items : List Item) (line : Line) (phase : Phase) (inside : Content) : Kind → Chars → Type 0 where
  -- in a tag
  in_tag : {found : Kind} (text : Chars) → is_known_tag syntax inside (less_than_sign ∷ text) ≡ true → TagFault syntax found text
      → Faulty syntax depth items line phase inside found (less_than_sign ∷ text)
  -- XHTML: `<` and what begins nothing
  no_markup : (text : Chars) (c : ℕ) → syntax ≡ Xhtml → has_markup inside ≡ true → is_opening_begun text ≡ true → meets_opening (text ++ c ∷ []) ≡ false
      → begins (begins_tag syntax) (text ++ c ∷ []) ≡ false
      → Faulty syntax depth items line phase inside kind.BadTag (less_than_sign ∷ (text ++ c ∷ []))
  -- a reference in text
  in_run : {found : Kind} (run : Chars) → has_references inside ≡ true → RunFault syntax found run
      → Faulty syntax depth items line phase inside found (ampersand ∷ run)
  -- XML 1.0, 2.5: `--` in a comment
  in_comment : (text : Chars) (c : ℕ) → syntax ≡ Xhtml → has_markup inside ≡ true → IsFirst (ends_with (codes "--")) text → c ≢ greater_than_sign
      → Faulty syntax depth items line phase inside kind.StrictText (less_than_sign ∷ (codes "!--" ++ (text ++ c ∷ [])))
  -- XML 1.0, 2.4: `]]>` in text
  section_end : inside ≡ content.Strict → ends_in_brackets items ≡ true → Faulty syntax depth items line phase inside kind.StrictText (greater_than_sign ∷ [])
  -- a document type that goes on to none, or that isn't the first thing but for comments and white space
  no_doctype : (keyword text : Chars) (c : ℕ) → has_markup inside ≡ true → cased syntax keyword ≡ doctype_word syntax → BeginsDoctype syntax (keyword ++ text)
      → BeginsNoDoctype syntax (keyword ++ (text ++ c ∷ []))
      → Faulty syntax depth items line phase inside kind.BadDoctype (less_than_sign ∷ exclamation_mark ∷ (keyword ++ (text ++ c ∷ [])))
  late_doctype : (text : Chars) → has_markup inside ≡ true → IsDoctype syntax text → phase ≢ before false
      → Faulty syntax depth items line phase inside kind.BadDoctype (less_than_sign ∷ exclamation_mark ∷ text)
  -- text outside the root; a `<` that is text is known as such at the next character
  outside_text : (c : ℕ) → inside ≡ content.Outside → is_white_space c ≡ false → c ≢ less_than_sign
      → Faulty syntax depth items line phase inside kind.Outside (c ∷ [])
  outside_less_than : (c : ℕ) → syntax ≡ Html → inside ≡ content.Outside → begins_markup c ≡ false
      → Faulty syntax depth items line phase inside kind.Outside (less_than_sign ∷ c ∷ [])
  outside_section : syntax ≡ Xhtml → inside ≡ content.Outside → Faulty syntax depth items line phase inside kind.Outside (codes "<![CDATA[")
  -- a whole tag
  at_tag : {found : Kind} (chars : Chars) (t : Tag) → Spells syntax inside chars None (tag t) → first_row (tag_rows syntax depth line phase t) ≡ Some found
      → Faulty syntax depth items line phase inside found chars

-- The bytes are whole characters: whole tokens at the front of a page, with `line` and `phase`, and a run of characters behind them.
pub record Reached (syntax : Syntax) (limits : Limits) (bytes : List ℕ) (items : List Item) (line : Line) (phase : Phase) (run : List PlacedCharacter) : Type 0 where
  pub front : List PlacedCharacter
  pub read : IsRead bytes (front ++ run)
  pub no_nul : has_no_nul (front ++ run) ≡ true
  pub spelled : Spelled syntax front (next_of (values run) None) items
  pub fit : AllFit limits.tag items
  pub sections : no_section_end items false false ≡ true
  pub stands : Stands syntax limits.depth items line phase

-- the offset of the first byte that belongs to no whole token
abbrev pub token_of : List ℕ → List PlacedCharacter → ℕ
token_of bytes [] = length bytes
token_of bytes (entry ∷ run) = entry.first

-- a tag that begins at `token` has no more bytes before `at` than the limit, if the run is known to be one
abbrev pub IsShort : Syntax → Limits → Line → List PlacedCharacter → ℕ → ℕ → Type 0
IsShort syntax limits line run token at = is_known_tag syntax (inside_of syntax line).content (values run) ≡ true → at ≤ token + limits.tag

-- bytes that begin a character, or none
abbrev pub IsPart : List ℕ → Type 0
IsPart part = (part ≡ []) ⊎ BeginsCharacter part

-- the byte goes on with a character other than U+0000, or ends one
pub data GoesOn (bytes : List ℕ) : Type 0 where
  begins_one : BeginsCharacter bytes → GoesOn bytes
  is_one : (value : ℕ) → IsCharacter bytes value → value ≢ 0 → GoesOn bytes

-- What stands before a byte that isn't read as a character: whole characters, the bytes of one that isn't whole, and this byte's offset.
pub record Before (syntax : Syntax) (limits : Limits) (bytes : List ℕ) (token at : ℕ) : Type 0 where
  pub whole : List ℕ
  pub part : List ℕ
  pub byte : ℕ
  pub rest : List ℕ
  pub items : List Item
  pub line : Line
  pub phase : Phase
  pub run : List PlacedCharacter
  pub are : bytes ≡ whole ++ (part ++ byte ∷ rest)
  pub reached : Reached syntax limits whole items line phase run
  pub pending : IsPending syntax (inside_of syntax line).content (values run)
  pub is_part : IsPart part
  pub token_is : token ≡ token_of whole run
  pub at_is : at ≡ length whole + length part

-- The bytes have this fault.
pub data FaultAt (syntax : Syntax) (limits : Limits) (bytes : List ℕ) : Fault → Type 0 where
  page_too_long : (token at : ℕ) (b : Before syntax limits bytes token at) → at ≡ limits.page → IsShort syntax limits b.line b.run token at
      → FaultAt syntax limits bytes (record { kind = kind.PageTooLong; token = token; at = at })
  not_utf8 : (token at : ℕ) (b : Before syntax limits bytes token at) → at < limits.page → IsShort syntax limits b.line b.run token at
      → BeginNone (b.part ++ b.byte ∷ [])
      → FaultAt syntax limits bytes (record { kind = kind.NotUtf8; token = token; at = at })
  nul : (token at : ℕ) (b : Before syntax limits bytes token at) → at < limits.page → IsShort syntax limits b.line b.run token at → b.part ≡ [] → b.byte ≡ 0
      → FaultAt syntax limits bytes (record { kind = kind.Nul; token = token; at = at })
  -- the tag's byte after the limit, where the run is known to be a tag before it
  tag_too_long : (token at : ℕ) (b : Before syntax limits bytes token at) → at < limits.page
      → is_known_tag syntax (inside_of syntax b.line).content (values b.run) ≡ true → at ≡ token + limits.tag → GoesOn (b.part ++ b.byte ∷ [])
      → FaultAt syntax limits bytes (record { kind = kind.TagTooLong; token = token; at = at })
  -- the character at which it is known, where the limit is passed then
  known_too_long : (whole rest : List ℕ) (items : List Item) (line : Line) (phase : Phase) (first : PlacedCharacter) (more : List PlacedCharacter) (c : PlacedCharacter)
      → bytes ≡ whole ++ rest → Reached syntax limits whole items line phase ((first ∷ more) ++ c ∷ [])
      → Unfinished syntax (inside_of syntax line).content (values (first ∷ more))
      → is_known_tag syntax (inside_of syntax line).content (values (first ∷ more)) ≡ false
      → is_known_tag syntax (inside_of syntax line).content (values ((first ∷ more) ++ c ∷ [])) ≡ true
      → first.first + limits.tag ≤ c.last → c.last < limits.page
      → FaultAt syntax limits bytes (record { kind = kind.TagTooLong; token = first.first; at = c.last })
  -- the last character of the run decides
  decided : {found : Kind} (whole rest : List ℕ) (items : List Item) (line : Line) (phase : Phase) (run : List PlacedCharacter) (c : PlacedCharacter)
      → bytes ≡ whole ++ rest → Reached syntax limits whole items line phase (run ++ c ∷ []) → IsPending syntax (inside_of syntax line).content (values run)
      → Faulty syntax limits.depth items line phase (inside_of syntax line).content found (values (run ++ c ∷ []))
      → IsShort syntax limits line (run ++ c ∷ []) (token_of whole (run ++ c ∷ [])) (c.last + 1) → c.last < limits.page
      → FaultAt syntax limits bytes (record { kind = found; token = token_of whole (run ++ c ∷ []); at = c.last })
  -- the page ends too early
  unended : (whole part : List ℕ) (items : List Item) (line : Line) (phase : Phase) (run : List PlacedCharacter)
      → bytes ≡ whole ++ part → Reached syntax limits whole items line phase run → IsPending syntax (inside_of syntax line).content (values run) → IsPart part
      → (run ≡ [] → part ≡ [] → phase ≢ after) → length bytes ≤ limits.page → IsShort syntax limits line run (token_of whole run) (length bytes)
      → FaultAt syntax limits bytes (record { kind = kind.Unended; token = token_of whole run; at = length bytes })
