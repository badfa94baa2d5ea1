-- Where numbers stand in a list.
use Rattle.std.specs.Prelude.{◌≡◌, ℕ, suc, ◌==◌, List, [], ◌∷◌, ◌++◌, Option, Some, None, if◌then◌else◌}
use Rattle.rx_terms.specs.Common.{option_map, option_or, nat_cmp, BTreeMap, get}

-- the place at which the number stands last
abbrev pub last_place : ℕ → List ℕ → Option ℕ
last_place number [] = None
last_place number (first ∷ rest) = option_or (option_map suc (last_place number rest)) (if first == number then Some 0 else None)

-- for each of the numbers, which stand behind `front`, the last place before it that has the same number
abbrev pub earlier_places : List ℕ → List ℕ → List (Option ℕ)
earlier_places front [] = []
earlier_places front (number ∷ rest) = last_place number front ∷ earlier_places (front ++ number ∷ []) rest

-- the numbers with what is kept of them: for each the same number's place before, and the last places
pub record AreFiled (numbers : List ℕ) (earlier : List (Option ℕ)) (last : BTreeMap ℕ ℕ) : Type 0 where
  pub before : earlier ≡ earlier_places [] numbers
  pub told : (number : ℕ) → get nat_cmp last number ≡ last_place number numbers
