use Rattle.rx_refs.proofs.Common.{◌≡◌, ◌+◌, ◌-◌, ◌*◌, ◌≤◌, length, drop, parent_steps}
use Rattle.rx_refs.proofs.plain.count_climbs.Given as goal

abbrev pub invariant-loop-count : goal.invariant-loop-count
invariant-loop-count l = record { fits : l.at ≤ length l.text; less : l.at ≡ l.count * 3; same : l.count + parent_steps (drop l.at l.text) ≡ parent_steps l.text }

abbrev pub decreases-loop-count : goal.decreases-loop-count
decreases-loop-count l = length l.text - l.at
