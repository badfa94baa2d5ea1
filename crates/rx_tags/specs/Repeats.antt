-- The names of a tag's attributes, as a sorted set of texts has them.
use Rattle.std.specs.Prelude.{◌≡◌, ◌+◌, ◌*◌, ◌%◌, ℕ, Bool, true, List, [], ◌∷◌, length, get_or}
use Rattle.std.specs.BTreeSet.{BTreeSet, contains_by}
use Rattle.rx_grammar.specs.Common.{slice_cmp, list_any, nat_cmp, same, firsts, has_repeat, Bor}
use Rattle.rx_tags.specs.Reading.{piece, rows_read, RowsFit}
use Rattle.rx_tags.specs.declared.attributes.AttributeSpan.{AttributeSpan}

-- whether the set has a text of these bytes
abbrev pub has_text : BTreeSet (Bor (List ℕ)) → List ℕ → Bool
has_text names text = contains_by (λ name. slice_cmp nat_cmp text name.now) names

-- whether a row has a name of these bytes
abbrev pub row_has_name : List ℕ → List AttributeSpan → List ℕ → Bool
row_has_name text rows name = list_any (λ row. same (piece text row.start row.middle) name) rows

-- a name's mark, by its first byte, its last one and its length: most names of a tag have different ones
abbrev pub mark_of : List ℕ → ℕ
mark_of [] = 0
mark_of (only ∷ []) = 0
mark_of (first ∷ next ∷ rest) = (first * 42 + get_or (next ∷ rest) (length rest) 0 * 39 + length (first ∷ next ∷ rest) % 64) % 64

-- a name stands twice in the rows, and these are the first ones of each name
pub record KeepsFirsts (text : List ℕ) (rows kept : List AttributeSpan) : Type 0 where
  pub repeated : has_repeat (rows_read text rows) ≡ true
  pub read : rows_read text kept ≡ firsts (rows_read text rows)
  pub fit : (limit : ℕ) → RowsFit text limit rows → RowsFit text limit kept
