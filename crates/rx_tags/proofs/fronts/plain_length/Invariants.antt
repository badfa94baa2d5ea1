use Rattle.rx_terms.proofs.Common.{◌≡◌, ◌-◌, ◌≤◌, true, length, take, not, list_all}
use Rattle.rx_tags.specs.Lanes.{ends_plain}
use Rattle.rx_tags.proofs.fronts.plain_length.Given as goal

abbrev pub invariant-loop-count : goal.invariant-loop-count
invariant-loop-count l = record { fits : l.count ≤ length l.bytes; plain : list_all (λ c. not (ends_plain c)) (take l.count l.bytes) ≡ true }

abbrev pub decreases-loop-count : goal.decreases-loop-count
decreases-loop-count l = length l.bytes - l.count
