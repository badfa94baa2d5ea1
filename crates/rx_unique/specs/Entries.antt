-- What the code keeps of numbers in a list.
use Rattle.std.specs.Prelude.{ℕ, List, map, Option}
use Rattle.rx_unique.specs.declared.places.Entry.{Entry}

abbrev pub numbers_of : List Entry → List ℕ
numbers_of entries = map (λ entry. entry.number) entries

-- of each the last place before it that has the same number
abbrev pub earlier_of : List Entry → List (Option ℕ)
earlier_of entries = map (λ entry. entry.earlier) entries
