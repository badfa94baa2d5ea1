-- Runs of members that share none.
use Rattle.std.specs.Prelude.{ℕ, ◌≤◌, ◌<◌, nat_le, max, List, [], ◌∷◌, ◌++◌, if◌then◌else◌}
use Rattle.rx_items.specs.declared.kept.Run.{Run}

-- each run has a member, and begins where the one before it ends, or later
abbrev pub Apart : ℕ → List Run → Type 0
Apart end [] = Unit {0}
Apart end (run ∷ runs) = (end ≤ run.from) × (run.from < run.to) × Apart run.to runs

-- what of a run is behind a place
abbrev pub rest_of : ℕ → Run → List Run
rest_of end run = if nat_le run.to (max run.from end) then [] else record { from = max run.from end; to = run.to } ∷ []

-- where it ends, if it has anything there
abbrev pub end_with_run : ℕ → Run → ℕ
end_with_run end run = if nat_le run.to (max run.from end) then end else run.to

-- of each run what is behind those before it
abbrev pub unshared : ℕ → List Run → List Run
unshared end [] = []
unshared end (run ∷ runs) = rest_of end run ++ unshared (end_with_run end run) runs
