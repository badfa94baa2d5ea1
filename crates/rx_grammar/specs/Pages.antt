-- What a page is, and which tree it has.
use Rattle.std.specs.Prelude.{◌≡◌, ℕ, suc, ◌≤◌, ◌==◌, Bool, true, false, not, ◌&&◌, List, [], ◌∷◌, ◌++◌, length, codes, Some, None, if◌then◌else◌}
use Rattle.rx_terms.specs.Common.{list_all, Chars}
use Rattle.rx_chars.specs.Characters.{IsRead, PlacedCharacter}
use Rattle.rx_chars.specs.declared.syntax.Syntax.{Syntax}
use Rattle.rx_grammar.specs.declared.contents.Content.{Content}
use Rattle.rx_grammar.specs.declared.contents.Content.TheVariants as content
use Rattle.rx_grammar.specs.declared.limits.Limits.{Limits}
use Rattle.rx_grammar.specs.Tokens.{Tag, Token, tag, character, comment, doctype}
use Rattle.rx_grammar.specs.Contents.{Place, outside, place_inside, is_alone, is_self_closed, is_plaintext, hides, drops_line_feed}
use Rattle.rx_grammar.specs.Trees.{end, element, Tree, after_text, has_element}
use Rattle.rx_grammar.specs.Items.{Item, Spelled, AllFit, no_section_end, text_of, is_line_feed, start_tag_of}
use Rattle.rx_grammar.specs.Omission.{enders, is_ended_by}

-- the token is the start tag of an element that may stand at the place
pub record IsStartTag (syntax : Syntax) (place : Place) (item : Item) (t : Tag) : Type 0 where
  pub content : item.content ≡ place.content
  pub token : item.token ≡ tag t
  pub start : t.closing ≡ false
  pub allowed : is_self_closed syntax place t ≡ false
  pub known : is_plaintext syntax place t ≡ false

-- the token is the end tag of this name, at the end of such content
pub record IsEndTag (inner : Content) (name : Chars) (item : Item) : Type 0 where
  pub t : Tag
  pub content : item.content ≡ inner
  pub token : item.token ≡ tag t
  pub end : t.closing ≡ true
  pub same : t.name ≡ name

-- Directly after a start tag that drops it, a line feed is passed over.
pub data Drops (drops : Bool) (inner : Content) : List Item → List Item → Type 0 where
  a_line_feed : {items : List Item} (item : Item) → drops ≡ true → item.content ≡ inner → is_line_feed item.token ≡ true
      → Drops drops inner (item ∷ items) items
  another : {items : List Item} (item : Item) → (drops && is_line_feed item.token) ≡ false → Drops drops inner (item ∷ items) (item ∷ items)
  no_more : Drops drops inner [] []

-- what the tree shows of the inside of an element
abbrev pub shown : Bool → Tree → Tree
shown hidden nodes = if hidden then end else nodes

-- From one place of a page to another the tokens are these nodes: `Holds .. from to nodes`, where `to` is what follows. They stand at `place`,
-- in an element named `parent`, and at most `left` levels of elements open there.
pub data Holds (syntax : Syntax) : ℕ → Place → Chars → List Item → List Item → Tree → Type 0 where
  nothing : {left : ℕ} {place : Place} {parent : Chars} {to : List Item} → Holds syntax left place parent to to end
  a_text : {left : ℕ} {place : Place} {parent : Chars} {from to : List Item} {nodes : Tree} (item : Item) (chars : Chars) → item.content ≡ place.content
      → text_of item.token ≡ Some chars
      → Holds syntax left place parent from to nodes → Holds syntax left place parent (item ∷ from) to (after_text chars nodes)
  a_comment : {left : ℕ} {place : Place} {parent : Chars} {from to : List Item} {nodes : Tree} (item : Item) → item.content ≡ place.content
      → item.token ≡ comment
      → Holds syntax left place parent from to nodes → Holds syntax left place parent (item ∷ from) to nodes
  -- an element that is its start tag alone
  alone : {left : ℕ} {place : Place} {parent : Chars} {from to : List Item} {nodes : Tree} (item : Item) (t : Tag) → IsStartTag syntax place item t
      → is_alone syntax place t ≡ true
      → Holds syntax (suc left) place parent from to nodes → Holds syntax (suc left) place parent (item ∷ from) to (element (start_tag_of item t) end nodes)
  -- a start tag, what is inside, and the end tag of its name
  closed : {left : ℕ} {place : Place} {parent : Chars} {from inner after to : List Item} {inside nodes : Tree} (item close : Item) (t : Tag)
      → IsStartTag syntax place item t → is_alone syntax place t ≡ false
      → Drops (drops_line_feed place t) (place_inside syntax place t.name).content from inner
      → Holds syntax left (place_inside syntax place t.name) t.name inner (close ∷ after) inside
      → has_element (enders place t.name) inside ≡ false → IsEndTag (place_inside syntax place t.name).content t.name close
      → Holds syntax (suc left) place parent after to nodes
      → Holds syntax (suc left) place parent (item ∷ from) to (element (start_tag_of item t) (shown (hides place t) inside) nodes)
  -- a start tag and what is inside, where its end tag may be omitted before what follows
  unclosed : {left : ℕ} {place : Place} {parent : Chars} {from inner after to : List Item} {inside nodes : Tree} (item : Item) (t : Tag)
      → IsStartTag syntax place item t → is_alone syntax place t ≡ false
      → Drops (drops_line_feed place t) (place_inside syntax place t.name).content from inner
      → Holds syntax left (place_inside syntax place t.name) t.name inner after inside
      → has_element (enders place t.name) inside ≡ false → is_ended_by place parent t.name after ≡ true
      → Holds syntax (suc left) place parent after to nodes
      → Holds syntax (suc left) place parent (item ∷ from) to (element (start_tag_of item t) (shown (hides place t) inside) nodes)

-- White space, comments and at most one document type. The last index tells whether there is one.
abbrev pub is_between : Token → Bool
is_between (character c) = true
is_between comment = true
is_between _ = false

pub data Lead : List Item → Bool → Type 0 where
  no_more : Lead [] false
  passed : {items : List Item} {stood : Bool} (item : Item) → item.content ≡ content.Outside → is_between item.token ≡ true → Lead items stood
      → Lead (item ∷ items) stood
  a_doctype : {items : List Item} (item : Item) → item.content ≡ content.Outside → item.token ≡ doctype → Lead items false → Lead (item ∷ items) true

abbrev pub root_name : Chars
root_name = codes "html"

-- HTML, 13.1; XML 1.0, 2.1: what may stand before the root, the root element, and what may stand after it
pub record Document (syntax : Syntax) (depth : ℕ) (items : List Item) (tree : Tree) : Type 0 where
  pub before : List Item
  pub root : Item
  pub from : List Item
  pub after : List Item
  pub doctype_stands : Bool
  pub t : Tag
  pub inside : Tree
  pub are : items ≡ before ++ root ∷ from
  pub lead : Lead before doctype_stands
  pub opens : IsStartTag syntax outside root t
  pub named : t.name ≡ root_name
  pub tree_is : tree ≡ element (start_tag_of root t) inside end
  pub holds : Holds syntax depth outside [] (root ∷ from) after tree
  pub trail : Lead after false

-- no character is U+0000
abbrev pub has_no_nul : List PlacedCharacter → Bool
has_no_nul entries = list_all (λ entry. not (entry.value == 0)) entries

-- The bytes are a page, and this is its tree.
pub record Page (syntax : Syntax) (limits : Limits) (bytes : List ℕ) (tree : Tree) : Type 0 where
  pub entries : List PlacedCharacter
  pub items : List Item
  pub size : length bytes ≤ limits.page
  pub read : IsRead bytes entries
  pub no_nul : has_no_nul entries ≡ true
  pub spelled : Spelled syntax entries None items
  pub fit : AllFit limits.tag items
  pub sections : no_section_end items false false ≡ true
  pub document : Document syntax limits.depth items tree
