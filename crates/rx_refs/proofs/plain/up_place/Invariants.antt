use Rattle.rx_refs.proofs.Common.{◌≡◌, ◌≤◌, length, take, ups}
use Rattle.rx_refs.proofs.plain.up_place.Given as goal

abbrev pub invariant-loop-more : goal.invariant-loop-more
invariant-loop-more l = record { fits : l.here ≤ length l.path; same : ups l.more (take l.here l.path) ≡ ups l.fn.count (take l.fn.place l.path) }

abbrev pub decreases-loop-more : goal.decreases-loop-more
decreases-loop-more l = l.more
