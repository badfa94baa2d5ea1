-- Lists of numbers.
use Rattle.std.specs.Prelude.{ℕ, suc, zero, List, [], ◌∷◌, ◌++◌}

-- the number at the end of one row
abbrev pub pushed : List (List ℕ) → ℕ → ℕ → List (List ℕ)
pushed [] row number = []
pushed (first ∷ rows) zero number = (first ++ number ∷ []) ∷ rows
pushed (first ∷ rows) (suc row) number = first ∷ pushed rows row number

abbrev pub empty_rows : ℕ → List (List ℕ)
empty_rows zero = []
empty_rows (suc n) = [] ∷ empty_rows n
