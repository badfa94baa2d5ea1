use Rattle.std.proofs.Common.{◌<◌, ℕ, List, length, take}
use Rattle.rx_unique.specs.Slots.{AreHeld}
use Rattle.rx_unique.proofs.slots.Slots.grown.Given as goal

abbrev pub invariant-loop-place : goal.invariant-loop-place
invariant-loop-place l = (0 < length l.grown) × ((others : List ℕ) → AreHeld l.self others l.hashes → AreHeld l.grown others (take l.place l.hashes))
