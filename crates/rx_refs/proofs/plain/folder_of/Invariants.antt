use Rattle.rx_refs.proofs.Common.{◌≡◌, ◌-◌, ◌≤◌, length, drop, false, folder_from}
use Rattle.rx_refs.proofs.plain.folder_of.Given as goal

abbrev pub invariant-loop-at : goal.invariant-loop-at
invariant-loop-at l = record { bound : l.folder ≤ l.at; fits : l.at ≤ length l.path; same : folder_from l.at l.folder l.start (drop l.at l.path) ≡ folder_from 0 0 false l.path }

abbrev pub decreases-loop-at : goal.decreases-loop-at
decreases-loop-at l = length l.path - l.at
