-- The front of a page: a page's tree cut open after a whole token.
use Rattle.std.specs.Prelude.{◌≡◌, ℕ, suc, ◌+◌, ◌≤◌, Bool, true, false, List, [], ◌∷◌, ◌++◌, length, Option}
use Rattle.rx_terms.specs.Text.{Chars}
use Rattle.rx_chars.specs.Characters.{IsRead, PlacedCharacter}
use Rattle.rx_chars.specs.declared.syntax.Syntax.{Syntax}
use Rattle.rx_grammar.specs.declared.limits.Limits.{Limits}
use Rattle.rx_grammar.specs.Names.{is_among}
use Rattle.rx_grammar.specs.Tokens.{Tag}
use Rattle.rx_grammar.specs.Contents.{Place, outside, place_inside, is_alone, drops_line_feed}
use Rattle.rx_grammar.specs.Trees.{StartTag, Tree, has_element}
use Rattle.rx_grammar.specs.Items.{Item, Spelled, AllFit, no_section_end, start_tag_of}
use Rattle.rx_grammar.specs.Omission.{enders}
use Rattle.rx_grammar.specs.Pages.{IsStartTag, Drops, Holds, Lead, root_name, Document, has_no_nul}

-- The start tags of open elements, the innermost first.
abbrev pub Line : Type 0
Line = List StartTag

-- the place inside the innermost of them
abbrev pub inside_of : Syntax → Line → Place
inside_of syntax [] = outside
inside_of syntax (t ∷ above) = place_inside syntax (inside_of syntax above) t.name

abbrev pub parent_of : Line → Chars
parent_of [] = []
parent_of (t ∷ above) = t.name

-- the names of start tags that end the innermost element
abbrev pub enders_of : Syntax → Line → List Chars
enders_of syntax [] = []
enders_of syntax (t ∷ above) = enders (inside_of syntax above) t.name

-- How far a page has come.
pub data Phase : Type 0 where
  before : Bool → Phase  -- the root hasn't begun; whether a document type stood
  within : Phase  -- elements are open
  after : Phase  -- the root has ended

-- The tokens are these open elements with all that stands in them so far; `to` is what follows. At most `left` levels open below them.
pub data Open (syntax : Syntax) : ℕ → List Item → List Item → Line → Type 0 where
  a_root : {left : ℕ} {from inner to : List Item} {inside : Tree} {stood : Bool} (lead : List Item) (item : Item) (t : Tag) → Lead lead stood
      → IsStartTag syntax outside item t → t.name ≡ root_name → is_alone syntax outside t ≡ false
      → Drops (drops_line_feed outside t) (place_inside syntax outside t.name).content from inner
      → Holds syntax left (place_inside syntax outside t.name) t.name inner to inside
      → Open syntax left (lead ++ item ∷ from) to (start_tag_of item t ∷ [])
  a_child : {left : ℕ} {all from inner to : List Item} {inside : Tree} {line : Line} (item : Item) (t : Tag) → Open syntax (suc left) all (item ∷ from) line
      → IsStartTag syntax (inside_of syntax line) item t → is_alone syntax (inside_of syntax line) t ≡ false
      → is_among (enders_of syntax line) t.name ≡ false
      → Drops (drops_line_feed (inside_of syntax line) t) (place_inside syntax (inside_of syntax line) t.name).content from inner
      → Holds syntax left (place_inside syntax (inside_of syntax line) t.name) t.name inner to inside
      → has_element (enders (inside_of syntax line) t.name) inside ≡ false
      → Open syntax left all to (start_tag_of item t ∷ line)

-- The tokens stand at the front of a page, with these elements open.
pub data Stands (syntax : Syntax) : ℕ → List Item → Line → Phase → Type 0 where
  not_begun : {depth : ℕ} {items : List Item} (stood : Bool) → Lead items stood → Stands syntax depth items [] (before stood)
  still_open : {left : ℕ} {items : List Item} {t : StartTag} {above : Line} (depth : ℕ) → Open syntax left items [] (t ∷ above)
      → length (t ∷ above) + left ≡ depth → Stands syntax depth items (t ∷ above) within
  ended : {depth : ℕ} {items : List Item} (tree : Tree) → Document syntax depth items tree → Stands syntax depth items [] after

-- The bytes, before `next` or nothing, are whole tokens that can stand at the front of a page; `line` and `phase` tell where it has come to.
pub record Begun (syntax : Syntax) (limits : Limits) (bytes : List ℕ) (next : Option ℕ) (line : Line) (phase : Phase) : Type 0 where
  pub entries : List PlacedCharacter
  pub items : List Item
  pub size : length bytes ≤ limits.page
  pub read : IsRead bytes entries
  pub no_nul : has_no_nul entries ≡ true
  pub spelled : Spelled syntax entries next items
  pub fit : AllFit limits.tag items
  pub sections : no_section_end items false false ≡ true
  pub stands : Stands syntax limits.depth items line phase
