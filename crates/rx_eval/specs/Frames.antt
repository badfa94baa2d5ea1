-- What waits below an element without object.
use Rattle.std.specs.Prelude.{ℕ, Bool, List, ◌++◌, map, if◌then◌else◌}
use Rattle.rx_rdfa.specs.Common.{Chars, Facts, Hanging, Forward, Reverse, InList, listed}

abbrev pub forward_by : Bool → ℕ → Chars → Hanging ℕ
forward_by inlist owner = if inlist then InList owner else Forward

abbrev pub reverse_by : Chars → Hanging ℕ
reverse_by = Reverse

abbrev pub hanging_by : Facts → ℕ → List (Hanging ℕ)
hanging_by facts owner = map (forward_by facts.inlist owner) (listed facts.rel) ++ map reverse_by (listed facts.rev)
