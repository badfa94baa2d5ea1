-- What the rows of a table stand for.
use Rattle.std.specs.Prelude.{◌≡◌, ⊤, false, List, [], ◌∷◌, slice_get, Option, Some, None, option_map, unwrap_or}
use Rattle.rx_grammar.specs.Common.{Chars, tokens, Tag, StartTag, Tree, end, element, text}
use Rattle.rx_microdata.specs.Facts.{Value, Written, Reference, distinct_tokens}
use Rattle.rx_microdata.specs.Elements.{Placed, names_of}
use Rattle.rx_microdata.specs.Properties.{is_any}
use Rattle.rx_items.specs.Rows.{rows_of}
use Rattle.rx_items.specs.Spans.{IsRun}
use Rattle.rx_items.specs.Words.{id_in, item_id_in, names_in, references_in, types_in}
use Rattle.rx_items.specs.Growing.{Growing, element_begun, text_gathered, element_ended}
use Rattle.rx_items.specs.declared.spans.Span.{Span}
use Rattle.rx_items.specs.declared.rows.Row.{Row}
use Rattle.rx_items.specs.declared.rows.RowValue.{RowValue}
use Rattle.rx_items.specs.declared.rows.RowValue.TheVariants as value

-- the whole has this part there
pub record ShowsPart (whole : Chars) (span : Span) (part : Chars) : Type 0 where
  pub front : Chars
  pub rest : Chars
  pub is_run : IsRun whole span front part rest

abbrev pub ShowsWord : Chars → Option Span → Option Chars → Type 0
ShowsWord whole None None = ⊤
ShowsWord whole None (Some part) = ⊥
ShowsWord whole (Some span) None = ⊥
ShowsWord whole (Some span) (Some part) = ShowsPart whole span part

-- by what is kept of tags, the text that was gathered, and the own texts of times
abbrev pub ShowsValue : Chars → Chars → List Chars → RowValue → Value → Type 0
ShowsValue words gathered times value.Empty v = v ≡ Written []
ShowsValue words gathered times (value.Written span) v = (part : Chars) × (v ≡ Written part) × ShowsPart words span part
ShowsValue words gathered times (value.Reference span) v = (part : Chars) × (v ≡ Reference part) × ShowsPart words span part
ShowsValue words gathered times (value.Running from) v = ⊥
ShowsValue words gathered times (value.Run span) v = (part : Chars) × (v ≡ Written part) × ShowsPart gathered span part
ShowsValue words gathered times (value.ChildText time) v = (part : Chars) × (v ≡ Written part) × (slice_get times time ≡ Some part)

pub record ShowsRow (words gathered : Chars) (times : List Chars) (row : Row) (p : Placed) : Type 0 where
  pub token : row.head.token ≡ p.facts.token
  pub at : row.head.at ≡ p.facts.at
  pub past : row.past ≡ p.past
  pub scope : row.scope ≡ p.scope
  pub is_item : row.head.is_item ≡ p.facts.is_item
  pub named : row.head.named ≡ is_any (names_of p)
  pub itemprop : Option Chars
  pub has_names : ShowsWord words (names_in row.head.words) itemprop
  pub names : p.facts.names ≡ option_map distinct_tokens itemprop
  pub id : ShowsWord words (id_in row.head.words) p.facts.id
  pub itemtype : Option Chars
  pub has_types : ShowsWord words (types_in row.head.words) itemtype
  pub types : p.facts.types ≡ distinct_tokens (unwrap_or itemtype [])
  pub item_id : ShowsWord words (item_id_in row.head.words) p.facts.item_id
  pub itemref : Option Chars
  pub has_references : ShowsWord words (references_in row.head.words) itemref
  pub references : p.facts.references ≡ tokens (unwrap_or itemref [])
  pub value : ShowsValue words gathered times row.value p.facts.value

abbrev pub ShowsRows : Chars → Chars → List Chars → List Row → List Placed → Type 0
ShowsRows words gathered times [] [] = ⊤
ShowsRows words gathered times [] (p ∷ ps) = ⊥
ShowsRows words gathered times (row ∷ rows) [] = ⊥
ShowsRows words gathered times (row ∷ rows) (p ∷ ps) = ShowsRow words gathered times row p × ShowsRows words gathered times rows ps

abbrev pub tag_in : StartTag → Tag
tag_in t = record { closing = false; name = t.name; attributes = t.attributes; slash = t.slash }

-- the events of some nodes
abbrev pub after : Growing → Tree → Growing
after g end = g
after g (element t inner more) = after (element_ended (after (element_begun g (tag_in t) t.token t.at) inner)) more
after g (text chars more) = after (text_gathered g chars) more

abbrev pub nothing_grown : Growing
nothing_grown = record { rows = []; line = []; words = []; text = []; times = [] }

-- law: of a page's tree the table has the rows, and no element is open
abbrev pub TablesShow : Type 0
TablesShow = (tree : Tree) → let g : Growing = after nothing_grown tree in (g.line ≡ []) × ShowsRows g.words g.text g.times g.rows (rows_of tree)
