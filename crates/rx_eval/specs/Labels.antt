-- The numbers of authors' blank nodes.
use Rattle.std.specs.Prelude.{◌≡◌, ℕ, ◌+◌, List, [], ◌∷◌, ◌++◌, Option, Some, None, is_some, bytes_eq, if◌then◌else◌}
use Rattle.rx_terms.specs.Text.{Chars}

-- the labels that have a number, in the order in which they got it
abbrev pub Numbered : Type 0
Numbered = List (Chars × ℕ)

abbrev pub label_number : Numbered → Chars → Option ℕ
label_number [] label = None
label_number (row ∷ more) label = if bytes_eq row.0 label then Some row.1 else label_number more label

-- the labels and the next number, when each of some labels that had none has drawn one
abbrev pub draw : Numbered → ℕ → List Chars → Numbered × ℕ
draw numbered next [] = (numbered, next)
draw numbered next (label ∷ more) =
    if is_some (label_number numbered label) then draw numbered next more else draw (numbered ++ (label, next) ∷ []) (next + 1) more

-- some labels have drawn their numbers
pub record Drawn (old : Numbered) (next : ℕ) (labels : List Chars) (new : Numbered) (after : ℕ) : Type 0 where
  pub path : draw old next labels ≡ (new, after)

-- some of the labels, the first ones, have drawn theirs
pub record DrawnSome (old : Numbered) (next : ℕ) (labels : List Chars) (new : Numbered) : Type 0 where
  pub front : List Chars
  pub rest : List Chars
  pub whole : labels ≡ front ++ rest
  pub path : (draw old next front).0 ≡ new
