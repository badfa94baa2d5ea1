-- Numbers by which declarations are found. Declarations of one prefix have one number, others may share it.
use Rattle.std.specs.Prelude.{◌≡◌, ℕ, true, List, map}
use Rattle.rx_terms.specs.Common.{list_all}
use Rattle.std.specs.Hash.DefaultHasher as sip
use Rattle.rx_names.specs.declared.rows.Declaration.{Declaration}
use Rattle.rx_names.specs.declared.rows.Declaration.TheVariants as row
use Rattle.rx_names.specs.Rows.{is_sound}
use Rattle.rx_terms.specs.Iri.{number_of}

abbrev pub row_number : Declaration → ℕ
row_number (row.Prefix key iri) = number_of key
row_number (row.Vocabulary value) = 0
row_number (row.Language value) = 1

-- the rows, with their numbers
pub record AreNumbered (rows : List Declaration) (numbers : List ℕ) : Type 0 where
  pub sound : list_all is_sound rows ≡ true
  pub are : numbers ≡ map row_number rows
