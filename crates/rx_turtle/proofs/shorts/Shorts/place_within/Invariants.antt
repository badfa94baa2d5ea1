use Rattle.rx_turtle.proofs.Common.{◌≡◌, ◌≤◌, length, option_or, place_at, place_below}
use Rattle.rx_turtle.proofs.shorts.Shorts.place_within.Given as goal

abbrev pub invariant-loop-left : goal.invariant-loop-left
invariant-loop-left l = (l.left ≤ length l.bytes) × (place_below l.self l.bytes (length l.bytes) ≡ option_or (place_at l.self l.bytes l.left) (place_below l.self l.bytes l.left))

abbrev pub decreases-loop-left : goal.decreases-loop-left
decreases-loop-left l = l.left
