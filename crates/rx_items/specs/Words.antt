-- What is kept of a tag's attributes.
use Rattle.std.specs.Prelude.{◌≡◌, ℕ, Bool, ◌||◌, List, ◌++◌, Option, Some, None, is_some, codes, if◌then◌else◌}
use Rattle.rx_grammar.specs.Common.{Chars, seen_slice, Attribute, value_of}
use Rattle.rx_items.specs.Spans.{byte_count, span_of}
use Rattle.rx_items.specs.declared.spans.Span.{Span}
use Rattle.rx_items.specs.declared.rows.Words.{Words}
use Rattle.rx_items.specs.declared.words.KeptWord.{KeptWord}
use Rattle.rx_items.specs.declared.words.Marks.{Marks}

-- the text behind a value that is kept, where there is one
abbrev pub word_text : Chars → Option Chars → Chars
word_text text None = text
word_text text (Some value) = text ++ value

abbrev pub word_span : Chars → Option Chars → Option Span
word_span text None = None
word_span text (Some value) = Some (span_of text value)

-- whether an element matters
abbrev pub is_marked : List Attribute → Bool
is_marked attributes =
    is_some (value_of attributes (codes "itemscope")) || (is_some (value_of attributes (codes "itemprop")) || is_some (value_of attributes (codes "id")))

-- what is looked up of a tag's attributes to tell whether its element matters
pub record AreMarks (attributes : List Attribute) (marks : Marks) : Type 0 where
  pub is_item : marks.is_item ≡ is_some (value_of attributes (codes "itemscope"))
  pub names : seen_slice marks.names ≡ value_of attributes (codes "itemprop")
  pub id : seen_slice marks.id ≡ value_of attributes (codes "id")

-- what is kept once this attribute is, and those before it
abbrev pub after_names : Chars → List Attribute → Chars
after_names text attributes = word_text text (value_of attributes (codes "itemprop"))

abbrev pub after_id : Chars → List Attribute → Chars
after_id text attributes = word_text (after_names text attributes) (value_of attributes (codes "id"))

abbrev pub after_types : Chars → List Attribute → Chars
after_types text attributes = word_text (after_id text attributes) (value_of attributes (codes "itemtype"))

abbrev pub after_item_id : Chars → List Attribute → Chars
after_item_id text attributes = word_text (after_types text attributes) (value_of attributes (codes "itemid"))

abbrev pub text_of_words : Chars → List Attribute → Chars
text_of_words text attributes = word_text (after_item_id text attributes) (value_of attributes (codes "itemref"))

abbrev pub word_kept : Chars → Option Chars → KeptWord
word_kept text value = record { is_there = is_some value; end = byte_count (word_text text value) }

abbrev pub words_of : Chars → List Attribute → Words
words_of text attributes = record {
  from = byte_count text;
  names_end = byte_count (after_names text attributes);
  id_end = byte_count (after_id text attributes);
  types_end = byte_count (after_types text attributes);
  item_id_end = byte_count (after_item_id text attributes);
  references_end = byte_count (text_of_words text attributes);
  has_names = is_some (value_of attributes (codes "itemprop"));
  has_id = is_some (value_of attributes (codes "id"));
  has_types = is_some (value_of attributes (codes "itemtype"));
  has_item_id = is_some (value_of attributes (codes "itemid"));
  has_references = is_some (value_of attributes (codes "itemref"));
}

-- the runs of these words, for those that are there
abbrev pub span_if : Bool → ℕ → ℕ → Option Span
span_if is_there from to = if is_there then Some (record { from = from; to = to }) else None

abbrev pub names_in : Words → Option Span
names_in words = span_if words.has_names words.from words.names_end

abbrev pub id_in : Words → Option Span
id_in words = span_if words.has_id words.names_end words.id_end

abbrev pub types_in : Words → Option Span
types_in words = span_if words.has_types words.id_end words.types_end

abbrev pub item_id_in : Words → Option Span
item_id_in words = span_if words.has_item_id words.types_end words.item_id_end

abbrev pub references_in : Words → Option Span
references_in words = span_if words.has_references words.item_id_end words.references_end
