use Rattle.rx_refs.proofs.Common.{◌≡◌, ◌-◌, ◌≤◌, length, drop, last_solidus}
use Rattle.rx_refs.proofs.plain.last_slash.Given as goal

abbrev pub invariant-loop-at : goal.invariant-loop-at
invariant-loop-at l = record { less : l.last ≤ l.at; fits : l.at ≤ length l.path; same : last_solidus l.at l.last (drop l.at l.path) ≡ last_solidus 0 0 l.path }

abbrev pub decreases-loop-at : goal.decreases-loop-at
decreases-loop-at l = length l.path - l.at
