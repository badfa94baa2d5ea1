-- What a tag says of the value of its element.
use Rattle.std.specs.Prelude.{Bool, not, ◌&&◌, List, [], Option, Some, None, is_some, unwrap_or, codes, if◌then◌else◌}
use Rattle.rx_grammar.specs.Common.{Chars, tokens, Attribute, Tag, value_of}
use Rattle.rx_microdata.specs.Facts.{Source, AsWritten, AsReference, OrOwnText, AllText, source_of}
use Rattle.rx_microdata.specs.Properties.{is_any}
use Rattle.rx_items.specs.Words.{word_span, word_text}
use Rattle.rx_items.specs.declared.spans.Span.{Span}
use Rattle.rx_items.specs.declared.values.Taken.{Taken}
use Rattle.rx_items.specs.declared.values.Taken.TheVariants as taken

abbrev pub written_span : Option Span → Taken
written_span None = taken.Empty
written_span (Some span) = taken.Written span

abbrev pub referred_span : Option Span → Taken
referred_span None = taken.Empty
referred_span (Some span) = taken.Reference span

abbrev pub own_unless : Option Span → Taken
own_unless None = taken.ChildText
own_unless (Some span) = taken.Written span

-- whether a tag gives a property name
abbrev pub has_itemprop : List Attribute → Bool
has_itemprop attributes = is_any (tokens (unwrap_or (value_of attributes (codes "itemprop")) []))

-- a property that is no item
abbrev pub is_asked : List Attribute → Bool
is_asked attributes = not (is_some (value_of attributes (codes "itemscope"))) && has_itemprop attributes

abbrev pub taken_by : Source → Chars → List Attribute → Taken
taken_by (AsWritten name) text attributes = written_span (word_span text (value_of attributes name))
taken_by (AsReference name) text attributes = referred_span (word_span text (value_of attributes name))
taken_by (OrOwnText name) text attributes = own_unless (word_span text (value_of attributes name))
taken_by AllText text attributes = taken.Text

abbrev pub text_by : Source → Chars → List Attribute → Chars
text_by (AsWritten name) text attributes = word_text text (value_of attributes name)
text_by (AsReference name) text attributes = word_text text (value_of attributes name)
text_by (OrOwnText name) text attributes = word_text text (value_of attributes name)
text_by AllText text attributes = text

-- where it is asked for
abbrev pub taken_if : Bool → Chars → Tag → Taken
taken_if asked text tag = if asked then taken_by (source_of tag.name) text tag.attributes else taken.Empty

abbrev pub text_if : Bool → Chars → Tag → Chars
text_if asked text tag = if asked then text_by (source_of tag.name) text tag.attributes else text

abbrev pub taken_of : Chars → Tag → Taken
taken_of text tag = taken_if (is_asked tag.attributes) text tag

abbrev pub text_taken : Chars → Tag → Chars
text_taken text tag = text_if (is_asked tag.attributes) text tag
