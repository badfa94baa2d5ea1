-- The tokens of a page in order, each with its place and the content that it is spelled in.
use Rattle.std.specs.Prelude.{◌≡◌, ℕ, ◌+◌, ◌≤◌, Bool, true, false, ◌&&◌, ◌==◌, List, [], ◌∷◌, ◌++◌, map, Option, Some, None, if◌then◌else◌}
use Rattle.rx_terms.specs.Common.{right_bracket, greater_than_sign, line_feed, Chars}
use Rattle.rx_chars.specs.Characters.{PlacedCharacter}
use Rattle.rx_chars.specs.declared.syntax.Syntax.{Syntax}
use Rattle.rx_grammar.specs.declared.contents.Content.{Content}
use Rattle.rx_grammar.specs.declared.contents.Content.TheVariants as content
use Rattle.rx_grammar.specs.Tokens.{Tag, Token, tag, character, reference, kept, section}
use Rattle.rx_grammar.specs.Spelling.{Spells}
use Rattle.rx_grammar.specs.Trees.{StartTag}

abbrev pub values : List PlacedCharacter → Chars
values entries = map (λ entry. entry.value) entries

-- the first character, where `next` stands after all
abbrev pub next_of : Chars → Option ℕ → Option ℕ
next_of [] next = next
next_of (c ∷ text) next = Some c

-- A token, the offsets of its first and its last byte, and the content that it is spelled in.
pub record Item : Type 0 where
  pub token : Token
  pub content : Content
  pub first : ℕ
  pub last : ℕ

-- the offset of the last byte, where the first entry ends at `last`
abbrev pub last_from : ℕ → List PlacedCharacter → ℕ
last_from last [] = last
last_from last (entry ∷ entries) = last_from entry.last entries

-- The characters are these tokens, one after another, where `next` stands after the last.
pub data Spelled (syntax : Syntax) : List PlacedCharacter → Option ℕ → List Item → Type 0 where
  no_more : {next : Option ℕ} → Spelled syntax [] next []
  one : {next : Option ℕ} (c : PlacedCharacter) (run rest : List PlacedCharacter) (item : Item) {items : List Item}
      → Spells syntax item.content (values (c ∷ run)) (next_of (values rest) next) item.token → item.first ≡ c.first → item.last ≡ last_from c.last run
      → Spelled syntax rest next items → Spelled syntax ((c ∷ run) ++ rest) next (item ∷ items)

-- No tag has more bytes than the limit.
abbrev pub Fits : ℕ → Item → Token → Type 0
Fits limit item (tag t) = item.last + 1 ≤ item.first + limit
Fits limit item _ = Unit {0}

abbrev pub AllFit : ℕ → List Item → Type 0
AllFit limit [] = Unit {0}
AllFit limit (item ∷ items) = Fits limit item item.token × AllFit limit items

-- XML 1.0, 2.4: `]]>` doesn't stand in text.
abbrev pub is_strict_literal : ℕ → Content → Token → Bool
is_strict_literal c content.Strict (character d) = c == d
is_strict_literal c _ _ = false

abbrev pub is_literal : ℕ → Item → Bool
is_literal c item = is_strict_literal c item.content item.token

-- `two` says whether the two tokens before are `]`, `last` whether the one before is
abbrev pub no_section_end : List Item → Bool → Bool → Bool
no_section_end [] two last = true
no_section_end (item ∷ items) two last =
    if two && is_literal greater_than_sign item then false
    else no_section_end items (last && is_literal right_bracket item) (is_literal right_bracket item)

-- the text of a token, or none where it has none
abbrev pub text_of : Token → Option Chars
text_of (character c) = Some (c ∷ [])
text_of (reference c) = Some (c ∷ [])
text_of (kept text) = Some text
text_of (section text) = Some text
text_of _ = None

-- a line feed, literal or by a reference
abbrev pub is_line_feed : Token → Bool
is_line_feed (character c) = c == line_feed
is_line_feed (reference c) = c == line_feed
is_line_feed _ = false

-- the start tag of an element, at its place
abbrev pub start_tag_of : Item → Tag → StartTag
start_tag_of item t = record { name = t.name; attributes = t.attributes; slash = t.slash; token = item.first; at = item.last }
