-- Tables of names in byte order.
use Rattle.std.specs.Prelude.{◌≡◌, ℕ, ◌≤◌, Bool, true, ◌&&◌, [], ◌∷◌, ◌++◌, length, take, drop, Option, Some, None, option_map, encode_utf8_all, unwrap_or}
use Rattle.rx_rdfa.specs.Common.{list_all, is_lt, nat_cmp, match_ordering, slice_cmp, Chars, lowered, Table}
use Rattle.std.specs.declared.cmp.Ordering.{Ordering}

-- the order of the texts' UTF-8 forms
abbrev pub byte_order : Chars → Chars → Ordering
byte_order a b = slice_cmp nat_cmp (encode_utf8_all a) (encode_utf8_all b)

abbrev pub precedes : Chars → Chars → Bool
precedes a b = is_lt (byte_order a b)

-- the names rise in byte order, so each stands there once
abbrev pub rise : Table → Bool
rise [] = true
rise (row ∷ rows) = list_all (λ later. precedes row.0 later.0) rows && rise rows

-- the table with a row more, in its place; none where its name stands there already
abbrev pub row_put : Chars × Chars → Table → Option Table
row_put row [] = Some (row ∷ [])
row_put row (first ∷ rows) = match_ordering (byte_order row.0 first.0) (Some (row ∷ first ∷ rows)) None (option_map (λ table. first ∷ table) (row_put row rows))

-- no row of the name can be put in
abbrev pub IsThere : Chars → Table → Type 0
IsThere name table = (iri : Chars) → row_put (name, iri) table ≡ None

-- each row of the name is put in at this place
abbrev pub IsGap : Chars → Table → ℕ → Type 0
IsGap name table gap =
    (gap ≤ length table) × ((iri : Chars) → row_put (name, iri) table ≡ Some (take gap table ++ (name, iri) ∷ drop gap table))

-- the table with the rows' names in lower case, each with the IRI of the first of them
abbrev pub folded_onto : Table → Table → Table
folded_onto table [] = table
folded_onto table (row ∷ rows) = folded_onto (unwrap_or (row_put (lowered row.0, row.1) table) table) rows

abbrev pub folded : Table → Table
folded rows = folded_onto [] rows
