use Rattle.rx_refs.proofs.Common.{◌≡◌, ◌-◌, ◌≤◌, length, drop, true, is_plain_from}
use Rattle.rx_refs.proofs.plain.is_plain_from.Given as goal

abbrev pub invariant-loop-at : goal.invariant-loop-at
invariant-loop-at l = record { fits : l.at ≤ length l.text; same : is_plain_from l.first l.start (drop l.at l.text) ≡ is_plain_from l.fn.first true l.text }

abbrev pub decreases-loop-at : goal.decreases-loop-at
decreases-loop-at l = length l.text - l.at
