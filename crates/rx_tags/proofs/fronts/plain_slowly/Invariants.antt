use Rattle.rx_terms.proofs.Common.{◌≡◌, ◌-◌, ◌≤◌, true, length, take, list_all}
use Rattle.rx_tags.specs.Fronts.{plain_in_quotes}
use Rattle.rx_tags.proofs.fronts.plain_slowly.Given as goal

abbrev pub invariant-loop-count : goal.invariant-loop-count
invariant-loop-count l = record { fits : l.count ≤ length l.bytes; plain : list_all plain_in_quotes (take l.count l.bytes) ≡ true }

abbrev pub decreases-loop-count : goal.decreases-loop-count
decreases-loop-count l = length l.bytes - l.count
