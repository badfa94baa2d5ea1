-- A table that is written out.
use Rattle.std.specs.Prelude.{ℕ, Bool, ◌&&◌, List, map, bytes_eq}
use Rattle.rx_rdfa.specs.Common.{list_all, chars, is_iri, lowered, Table, Bor}
use Rattle.rx_names.specs.Tables.{rise}

abbrev pub given_table : List (Bor (List ℕ) × Bor (List ℕ)) → Table
given_table rows = map (λ row. (chars row.0.now, chars row.1.now)) rows

-- the names rise, and each row has an IRI
abbrev pub are_given : Table → Bool
are_given rows = rise rows && list_all (λ row. is_iri row.1) rows

-- the names are in lower case
abbrev pub are_lowered : Table → Bool
are_lowered rows = list_all (λ row. bytes_eq (lowered row.0) row.0) rows
