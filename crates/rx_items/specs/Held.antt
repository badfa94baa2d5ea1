-- What is kept of a page, and the rows that it stands for.
use Rattle.rx_grammar.specs.Common.{Bor, Chars, Tree}
use Rattle.std.specs.Prelude.{◌≡◌, ⊤, ℕ, suc, Bool, true, false, List, [], ◌∷◌, map, length, slice_get, Contains, ◌↔◌, Option, Some, None, option_map, unwrap_or, Vec, Result, IfOk}
use Rattle.std.specs.declared.alloc.Global.{Global}
use Rattle.rx_terms.specs.declared.texts.NoMemory.{NoMemory}
use Rattle.rx_microdata.specs.Facts.{distinct_tokens}
use Rattle.rx_microdata.specs.Elements.{Placed, is_item, names_of, is_top_level}
use Rattle.rx_items.specs.Rows.{properties_in, rows_of}
use Rattle.rx_items.specs.Showing.{ShowsPart, ShowsWord, ShowsValue, ShowsRow, ShowsRows}
use Rattle.rx_items.specs.Words.{names_in, types_in}
use Rattle.rx_items.specs.declared.rows.PageRows.{PageRows}
use Rattle.rx_items.specs.declared.rows.Row.{Row}
use Rattle.rx_items.specs.declared.rows.RowValue.{RowValue}
use Rattle.rx_items.specs.declared.spans.Span.{Span}
use Rattle.rx_items.specs.Properties.{gathered}
use Rattle.rx_items.specs.declared.kept.Element.{Element}
use Rattle.rx_items.specs.declared.kept.BesideRow.{BesideRow}
use Rattle.rx_items.specs.declared.kept.BesideRow.TheVariants as extra
use Rattle.rx_items.specs.declared.kept.Kept.{Kept}
use Rattle.rx_items.specs.declared.kept.Run.{Run}
use Rattle.rx_items.specs.declared.kept.Tokens.{Tokens}
use Rattle.rx_items.specs.declared.kept.Tokens.TheVariants as tokens

abbrev pub texts_in : Option (Vec Chars Global) → Option (List Chars)
texts_in list = option_map (λ (l : Vec Chars Global). l.items) list

abbrev pub texts_seen : Option (Bor (List Chars)) → Option (List Chars)
texts_seen list = option_map (λ (l : Bor (List Chars)). l.now) list

-- what stands beside a row: lists of its names and of its types, where these aren't one token, and what it reaches
abbrev pub names_beside : BesideRow → Option (List Chars)
names_beside (extra.Plain run) = None
names_beside (extra.ListsAndReach rare) = texts_in rare.value.names

abbrev pub types_beside : BesideRow → Option (List Chars)
types_beside (extra.Plain run) = None
types_beside (extra.ListsAndReach rare) = texts_in rare.value.types

abbrev pub own_beside : BesideRow → Run
own_beside (extra.Plain run) = run
own_beside (extra.ListsAndReach rare) = rare.value.reach.own

abbrev pub others_beside : BesideRow → List Run
others_beside (extra.Plain run) = []
others_beside (extra.ListsAndReach rare) = rare.value.reach.others.items

abbrev pub runs_beside : BesideRow → List Run
runs_beside x = own_beside x ∷ others_beside x

-- the tokens of an attribute, by where it stands in what is kept of tags and by the list of them, where there is one
abbrev pub AreTokens : Chars → Option Span → Option (List Chars) → List Chars → Type 0
AreTokens words span (Some list) texts = list ≡ texts
AreTokens words None None texts = [] ≡ texts
AreTokens words (Some span) None texts = (token : Chars) × (texts ≡ token ∷ []) × ShowsPart words span token

-- what is so of the value of an attribute that stands there, or that is absent
abbrev pub OfWord : Chars → Option Span → (Option Chars → Type 0) → Type 0
OfWord words span Holds = (word : Option Chars) → ShowsWord words span word → Holds word

-- what was made shows the tokens, each once, of an attribute that stands there
abbrev pub MakesTokens : {X : Type 0} → Chars → Option Span → (X → Option (List Chars)) → Result X NoMemory → Type 0
MakesTokens words span list_in result =
    OfWord words span (λ word. IfOk result (λ made. AreTokens words span (list_in made) (distinct_tokens (unwrap_or word []))))

-- an attribute that stands there, or is absent, needs no list of its tokens
abbrev pub NeedsNoList : Chars → Option Span → Type 0
NeedsNoList words span = OfWord words span (λ word. AreTokens words span None (distinct_tokens (unwrap_or word [])))

-- the tokens of an attribute, by what is kept of tags
abbrev pub ShowsTokens : Chars → Tokens → List Chars → Type 0
ShowsTokens words (tokens.One span) texts = (token : Chars) × (texts ≡ token ∷ []) × ShowsPart words span token
ShowsTokens words (tokens.Many list) texts = list.now ≡ texts

-- by what is kept of tags, the text that was gathered, and the own texts of times
pub record ShowsElement (words gathered : Chars) (times : List Chars) (e : Element) (p : Placed) : Type 0 where
  pub token : e.token ≡ p.facts.token
  pub at : e.at ≡ p.facts.at
  pub is_item : e.is_item ≡ is_item p
  pub is_top : e.is_top ≡ is_top_level p
  pub names : ShowsTokens words e.names (names_of p)
  pub types : ShowsTokens words e.types p.facts.types
  pub item_id : ShowsWord words e.item_id p.facts.item_id
  pub value : ShowsValue words gathered times e.value p.facts.value

-- the element shows what a row shows that has this beside it
abbrev pub ShowsTheSame : Row → BesideRow → Element → Type 0
ShowsTheSame row x e =
    (words gathered : Chars) (times : List Chars) (p : Placed) → ShowsRow words gathered times row p
    → AreTokens words (names_in row.head.words) (names_beside x) (names_of p)
    → AreTokens words (types_in row.head.words) (types_beside x) p.facts.types
    → ShowsElement words gathered times e p

-- each row stands at its place
abbrev pub RowsAreNumbered : ℕ → List Placed → Type 0
RowsAreNumbered place [] = ⊤
RowsAreNumbered place (p ∷ ps) = (p.place ≡ place) × RowsAreNumbered (suc place) ps

abbrev pub row_places : List Placed → List ℕ
row_places rows = map (λ (p : Placed). p.place) rows

-- each of these is the row at its place
abbrev pub AllStand : List Placed → List Placed → Type 0
AllStand rows [] = ⊤
AllStand rows (e ∷ es) = (slice_get rows e.place ≡ Some e) × AllStand rows es

-- the runs of an item give its properties
abbrev pub GivesProperties : List Placed → List ℕ → ℕ → List Run → Placed → Type 0
GivesProperties ps members place runs root = (x : ℕ) → Contains (gathered members runs place) x ↔ Contains (row_places (properties_in ps root)) x

-- what stands beside a row is that of its element
pub record FitsRow (words : Chars) (ps : List Placed) (members : List ℕ) (place : ℕ) (row : Row) (p : Placed) (x : BesideRow) : Type 0 where
  pub names : AreTokens words (names_in row.head.words) (names_beside x) (names_of p)
  pub types : AreTokens words (types_in row.head.words) (types_beside x) p.facts.types
  pub reach : is_item p ≡ true → GivesProperties ps members place (runs_beside x) p

-- so are those of the first so many rows
pub record FirstRowsFit (words : Chars) (ps : List Placed) (members : List ℕ) (rows : List Row) (count : ℕ) (extras : List BesideRow) : Type 0 where
  pub size : length extras ≡ count
  pub fit : (i : ℕ) (row : Row) (p : Placed) (x : BesideRow) → slice_get rows i ≡ Some row → slice_get ps i ≡ Some p → slice_get extras i ≡ Some x
      → FitsRow words ps members i row p x

-- so are those of all rows
abbrev pub EachFits : Chars → List Placed → List ℕ → List Row → List BesideRow → Type 0
EachFits words ps members rows extras = FirstRowsFit words ps members rows (length rows) extras

pub record HoldsRows (kept : Kept) (rows : List Placed) (base : Chars) : Type 0 where
  pub shown : ShowsRows kept.words kept.text kept.times.items kept.rows.items rows
  pub base_is : kept.base ≡ base
  pub numbered : RowsAreNumbered 0 rows
  pub extras : EachFits kept.words rows kept.members.items kept.rows.items kept.extras.items

-- what is so of the rows that are held, and of their base
abbrev pub OfRows : Kept → (List Placed → Chars → Type 0) → Type 0
OfRows kept Holds = (rows : List Placed) (base : Chars) → HoldsRows kept rows base → Holds rows base

-- what is kept of a page holds the rows of its tree
abbrev pub KeepsPage : PageRows → Chars → Result Kept NoMemory → Type 0
KeepsPage page base result =
    (tree : Tree) → ShowsRows page.words page.text page.times.items page.rows.items (rows_of tree)
    → IfOk result (λ kept. HoldsRows kept (rows_of tree) base)

-- an element is that of the row at a place, and its runs give its properties
pub record IsElement (kept : Kept) (rows : List Placed) (place : ℕ) (e : Element) (p : Placed) : Type 0 where
  pub shown : ShowsElement kept.words kept.text kept.times.items e p
  pub reached : is_item p ≡ true → GivesProperties rows kept.members.items place (e.own ∷ e.others.now) p

-- whether there is one of which the test holds
abbrev pub is_there : (Placed → Bool) → Option Placed → Bool
is_there test None = false
is_there test (Some p) = test p

-- the element at a place, where there is one
abbrev pub AtPlace : Kept → List Placed → ℕ → Option Element → Type 0
AtPlace kept rows place None = slice_get rows place ≡ None
AtPlace kept rows place (Some e) = (p : Placed) × (slice_get rows place ≡ Some p) × IsElement kept rows place e p

-- the names of the row at a place, where there is one
abbrev pub NamesAt : Kept → List Placed → ℕ → Option Tokens → Type 0
NamesAt kept rows place None = slice_get rows place ≡ None
NamesAt kept rows place (Some names) = (p : Placed) × (slice_get rows place ≡ Some p) × ShowsTokens kept.words names (names_of p)

-- its value
abbrev pub ValueAt : Kept → List Placed → ℕ → Option RowValue → Type 0
ValueAt kept rows place None = slice_get rows place ≡ None
ValueAt kept rows place (Some value) =
    (p : Placed) × (slice_get rows place ≡ Some p) × ShowsValue kept.words kept.text kept.times.items value p.facts.value
