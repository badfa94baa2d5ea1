-- Lists of numbers, and where things stand in a list.
use Rattle.std.specs.Prelude.{ℕ, suc, zero, Bool, false, List, [], ◌∷◌, Option, Some, None, nat_eq, if◌then◌else◌}
use Rattle.rx_graph.specs.Rows.{pushed}

-- the number at the end of one row, where there is such a row
abbrev pub filed_in : List (List ℕ) → Option ℕ → ℕ → List (List ℕ)
filed_in rows (Some row) number = pushed rows row number
filed_in rows None number = rows

-- what a function has at numbers from j on, so many
abbrev pub table : {A : Type 0} → (ℕ → A) → ℕ → ℕ → List A
table f j zero = []
table f j (suc n) = f j ∷ table f (suc j) n

-- the number is this one
abbrev pub is_row_key : ℕ → Option ℕ → Bool
is_row_key k (Some n) = nat_eq k n
is_row_key k None = false

module _ {A : Type 0} where
  -- the positions, counted from one on, of those that pass the test
  abbrev pub positions : (A → Bool) → ℕ → List A → List ℕ
  positions test i [] = []
  positions test i (a ∷ list) = if test a then i ∷ positions test (suc i) list else positions test (suc i) list

  -- the positions of those that belong to a number
  abbrev pub filed : (A → Option ℕ) → List A → ℕ → List ℕ
  filed of list k = positions (λ a. is_row_key k (of a)) 0 list
