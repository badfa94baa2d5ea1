use Rattle.rx_refs.proofs.Common.{◌≡◌, ◌-◌, ◌≤◌, length, drop, path_end_from}
use Rattle.rx_refs.proofs.plain.path_end_of.Given as goal

abbrev pub invariant-loop-at : goal.invariant-loop-at
invariant-loop-at l = record { fits : l.at ≤ length l.base; same : path_end_from l.at (drop l.at l.base) ≡ path_end_from 0 l.base }

abbrev pub decreases-loop-at : goal.decreases-loop-at
decreases-loop-at l = length l.base - l.at
