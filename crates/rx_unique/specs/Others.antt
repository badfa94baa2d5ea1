-- What the code keeps of the keys that found their slot taken.
use Rattle.std.specs.Prelude.{ℕ}
use Rattle.rx_unique.specs.declared.others.Others.{Others}
use Rattle.rx_unique.specs.Unique.{MayAdd}

-- the others are as they were, or have the one at the place with this number more
abbrev pub MayGain : ℕ → ℕ → Others → Others → Type 0
MayGain place number old new = MayAdd place number old.places.items old.numbers new.places.items new.numbers
