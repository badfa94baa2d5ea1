-- The places of an item's properties, as runs of a list of members.
use Rattle.std.specs.Prelude.{ℕ, Bool, true, not, ◌==◌, ◌&&◌, nat_lt, ◌-◌, List, [], ◌∷◌, ◌++◌, take, drop, filter}
use Rattle.rx_items.specs.declared.kept.Run.{Run}

abbrev pub members_in : List ℕ → Run → List ℕ
members_in members run = take (run.to - run.from) (drop run.from members)

-- what stands in these runs
abbrev pub in_runs : List ℕ → List Run → List ℕ
in_runs members [] = []
in_runs members (run ∷ runs) = members_in members run ++ in_runs members runs

abbrev pub is_other : ℕ → ℕ → Bool
is_other place member = not (member == place)

-- the places rise, and none of them is the item's own
abbrev pub follows_place : ℕ → ℕ → ℕ → Bool
follows_place place before member = nat_lt before member && not (member == place)

abbrev pub rise_behind : ℕ → ℕ → List ℕ → Bool
rise_behind place before [] = true
rise_behind place before (member ∷ more) = follows_place place before member && rise_behind place member more

abbrev pub are_listed : ℕ → List ℕ → Bool
are_listed place [] = true
are_listed place (first ∷ rest) = not (first == place) && rise_behind place first rest

-- the places in these runs but for the item's own
abbrev pub gathered : List ℕ → List Run → ℕ → List ℕ
gathered members runs place = filter (is_other place) (in_runs members runs)
