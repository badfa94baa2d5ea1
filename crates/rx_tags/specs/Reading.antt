-- A start tag's attributes as they are read into one buffer of bytes.
use Rattle.std.specs.Prelude.{ℕ, ◌-◌, ◌≤◌, List, [], ◌∷◌, ◌++◌, length, map, take, drop}
use Rattle.rx_grammar.specs.Common.{chars, IsUtf8, Chars, Attribute}
use Rattle.rx_tags.specs.declared.attributes.AttributeSpan.{AttributeSpan}

-- The attributes that are whole, and of the one that is read its name, the value that is known, and what stands after
-- that: nothing, or `&` and a run that may become a reference.
pub record AttributeReading : Type 0 where
  pub whole : List Attribute
  pub key : Chars
  pub known : Chars
  pub pending : Chars

-- the attributes with the one that is read, a run at whose end is text
abbrev pub all_read : AttributeReading → List Attribute
all_read reading = reading.whole ++ (reading.key, reading.known ++ reading.pending) ∷ []

-- these attributes are whole, and of the next one there is so much of its name
abbrev pub begun_behind : List Attribute → Chars → AttributeReading
begun_behind attributes key = record { whole = attributes; key = key; known = []; pending = [] }

abbrev pub nothing_read : AttributeReading
nothing_read = record { whole = []; key = []; known = []; pending = [] }

-- the bytes from one place to another
abbrev pub piece : List ℕ → ℕ → ℕ → List ℕ
piece text from to = take (to - from) (drop from text)

-- the name and the value that a row marks
abbrev pub row_read : List ℕ → AttributeSpan → Attribute
row_read text row = (chars (piece text row.start row.middle), chars (piece text row.value row.end))

abbrev pub rows_read : List ℕ → List AttributeSpan → List Attribute
rows_read text rows = map (row_read text) rows

abbrev pub read_as : List ℕ → List AttributeSpan → ℕ → ℕ → ℕ → AttributeReading
read_as text rows start middle end =
    record { whole = rows_read text rows; key = chars (piece text start middle); known = chars (piece text middle end); pending = chars (drop end text) }

-- a row ends before a place, and marks text
pub record RowFits (text : List ℕ) (limit : ℕ) (row : AttributeSpan) : Type 0 where
  pub rises : row.start ≤ row.middle
  pub apart : row.middle ≤ row.value
  pub on : row.value ≤ row.end
  pub within : row.end ≤ limit
  pub name : IsUtf8 (piece text row.start row.middle)
  pub value : IsUtf8 (piece text row.value row.end)

abbrev pub RowsFit : List ℕ → ℕ → List AttributeSpan → Type 0
RowsFit text limit [] = Unit {0}
RowsFit text limit (row ∷ rows) = RowFits text limit row × RowsFit text limit rows

pub record SpansFit (text : List ℕ) (rows : List AttributeSpan) (start middle end : ℕ) : Type 0 where
  pub rows_fit : RowsFit text start rows
  pub rises : start ≤ middle
  pub on : middle ≤ end
  pub within : end ≤ length text
  pub key : IsUtf8 (piece text start middle)
  pub known : IsUtf8 (piece text middle end)
  pub pending : IsUtf8 (drop end text)
