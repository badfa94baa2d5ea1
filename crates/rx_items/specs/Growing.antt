-- The table while its page is read: what each event makes of it.
use Rattle.std.specs.Prelude.{◌≡◌, ℕ, Bool, true, false, ◌-◌, not, ◌&&◌, ◌||◌, nat_lt, List, [], ◌∷◌, ◌++◌, length, take, slice_index_or, slice_set, Option, Some, None, is_some, codes, if◌then◌else◌}
use Rattle.rx_grammar.specs.Common.{Chars, Tag, value_of}
use Rattle.rx_items.specs.Spans.{byte_count}
use Rattle.rx_items.specs.Words.{is_marked, words_of, text_of_words}
use Rattle.rx_items.specs.Values.{has_itemprop, taken_of, text_taken}
use Rattle.rx_items.specs.declared.rows.Row.{Row}
use Rattle.rx_items.specs.declared.rows.Words.{Words}
use Rattle.rx_items.specs.declared.rows.Head.{Head}
use Rattle.rx_items.specs.declared.rows.Open.{Open}
use Rattle.rx_items.specs.declared.rows.RowValue.{RowValue}
use Rattle.rx_items.specs.declared.rows.RowValue.TheVariants as value
use Rattle.rx_items.specs.declared.values.Taken.{Taken}
use Rattle.rx_items.specs.declared.values.Taken.TheVariants as taken

-- rows, open elements with the innermost last, what is kept of tags, the text that is gathered, and the own texts of times
pub record Growing : Type 0 where
  pub rows : List Row
  pub line : List Open
  pub words : Chars
  pub text : Chars
  pub times : List Chars

abbrev pub nothing_open : Open
nothing_open = record { row = None; scope = None; gathers = false; own = None }

-- the innermost open element
abbrev pub innermost : List Open → Open
innermost line = slice_index_or line (length line - 1) nothing_open

abbrev pub row_value : Taken → ℕ → ℕ → RowValue
row_value taken.Empty mark times = value.Empty
row_value (taken.Written span) mark times = value.Written span
row_value (taken.Reference span) mark times = value.Reference span
row_value taken.Text mark times = value.Running mark
row_value taken.ChildText mark times = value.ChildText times

abbrev pub takes_text : Taken → Bool
takes_text taken.Text = true
takes_text _ = false

abbrev pub own_of : Taken → ℕ → Option ℕ
own_of taken.ChildText times = Some times
own_of _ times = None

abbrev pub with_own : Taken → List Chars → List Chars
with_own taken.ChildText times = times ++ [] ∷ []
with_own _ times = times

-- an element that is no row
abbrev pub element_passed : Growing → Growing
element_passed g = record g {
  line = g.line ++ record { row = None; scope = (innermost g.line).scope; gathers = (innermost g.line).gathers; own = None } ∷ [];
}

abbrev pub inner_scope : Bool → ℕ → Option ℕ → Option ℕ
inner_scope is_item place scope = if is_item then Some place else scope

-- an element that is one
abbrev pub added : Growing → Head → Taken → Growing
added g head taken = record g {
  rows = g.rows ++ record { head = head; past = 0; scope = (innermost g.line).scope; value = row_value taken (byte_count g.text) (length g.times) } ∷ [];
  line = g.line ++ record {
    row = Some (length g.rows);
    scope = inner_scope head.is_item (length g.rows) (innermost g.line).scope;
    gathers = (innermost g.line).gathers || takes_text taken;
    own = own_of taken (length g.times);
  } ∷ [];
  times = with_own taken g.times;
}

-- what is kept of a tag, behind this text
abbrev pub head_of : Chars → Tag → ℕ → ℕ → Head
head_of text tag token at = record {
  token = token;
  at = at;
  is_item = is_some (value_of tag.attributes (codes "itemscope"));
  named = has_itemprop tag.attributes;
  words = words_of text tag.attributes;
}

-- a property that is no item
abbrev pub is_asked_of : Head → Bool
is_asked_of head = not head.is_item && head.named

-- what is kept of a tag's words, and then of its value
abbrev pub with_tag_words : Growing → Tag → Growing
with_tag_words g tag = record g { words = text_taken (text_of_words g.words tag.attributes) tag }

-- an element begins
abbrev pub element_begun : Growing → Tag → ℕ → ℕ → Growing
element_begun g tag token at =
    if is_marked tag.attributes then
    added (with_tag_words g tag) (head_of g.words tag token at) (taken_of (text_of_words g.words tag.attributes) tag)
    else element_passed g

abbrev pub with_said : Option ℕ → Chars → List Chars → List Chars
with_said None chars times = times
with_said (Some own) chars times = if nat_lt own (length times) then slice_set times own (slice_index_or times own [] ++ chars) else times

-- text
abbrev pub text_gathered : Growing → Chars → Growing
text_gathered g chars = record g {
  text = if (innermost g.line).gathers then g.text ++ chars else g.text;
  times = with_said (innermost g.line).own chars g.times;
}

abbrev pub ended_value : RowValue → ℕ → RowValue
ended_value (value.Running from) mark = value.Run (record { from = from; to = mark })
ended_value other mark = other

abbrev pub row_ended : Row → ℕ → ℕ → Row
row_ended row past mark = record row { past = past; value = ended_value row.value mark }

abbrev pub nothing_said : Words
nothing_said = record {
  from = 0;
  names_end = 0;
  id_end = 0;
  types_end = 0;
  item_id_end = 0;
  references_end = 0;
  has_names = false;
  has_id = false;
  has_types = false;
  has_item_id = false;
  has_references = false;
}

abbrev pub nothing_kept : Row
nothing_kept = record {
  head = record { token = 0; at = 0; is_item = false; named = false; words = nothing_said };
  past = 0;
  scope = None;
  value = value.Empty;
}

abbrev pub with_end : Option ℕ → ℕ → List Row → List Row
with_end None mark rows = rows
with_end (Some place) mark rows =
    if nat_lt place (length rows) then slice_set rows place (row_ended (slice_index_or rows place nothing_kept) (length rows) mark) else rows

-- the innermost element ends
abbrev pub element_ended : Growing → Growing
element_ended g = record g { rows = with_end (innermost g.line).row (byte_count g.text) g.rows; line = take (length g.line - 1) g.line }

-- text is gathered by no value
pub record GathersNoText (g : Growing) : Type 0 where
  pub gathers : (innermost g.line).gathers ≡ false
  pub own : (innermost g.line).own ≡ None
