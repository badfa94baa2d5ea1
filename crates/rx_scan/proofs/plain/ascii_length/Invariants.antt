use Rattle.rx_scan.proofs.Common.{◌≡◌, ◌-◌, ◌≤◌, true, length, take, list_all, is_plain_ascii}
use Rattle.rx_scan.proofs.plain.ascii_length.Given as goal

abbrev pub invariant-loop-count : goal.invariant-loop-count
invariant-loop-count l = record { fits : l.count ≤ length l.bytes; plain : list_all is_plain_ascii (take l.count l.bytes) ≡ true }

abbrev pub decreases-loop-count : goal.decreases-loop-count
decreases-loop-count l = length l.bytes - l.count
