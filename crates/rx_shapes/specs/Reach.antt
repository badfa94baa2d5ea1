-- Numbers below a size that are reached, each once.
use Rattle.std.specs.Prelude.{ℕ, Bool, true, false, List, [], ◌∷◌, ◌++◌, get_or, slice_set, replicate, if◌then◌else◌}

-- a mark for each number, and those that are marked in the order in which they were
pub record Reach : Type 0 where
  pub marks : List Bool
  pub list : List ℕ

-- none of so many
abbrev pub unreached : ℕ → Reach
unreached size = record { marks = replicate size false; list = [] }

abbrev pub reach_marked : Reach → ℕ → Reach
reach_marked reach a = record { marks = slice_set reach.marks a true; list = reach.list ++ a ∷ [] }

-- one more, where it isn't marked and there is a mark for it
abbrev pub reach_added : Reach → ℕ → Reach
reach_added reach a = if get_or reach.marks a true then reach else reach_marked reach a

-- one after another
abbrev pub reach_all : Reach → List ℕ → Reach
reach_all reach [] = reach
reach_all reach (a ∷ more) = reach_all (reach_added reach a) more
