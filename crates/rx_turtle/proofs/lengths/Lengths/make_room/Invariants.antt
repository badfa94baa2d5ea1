use Rattle.std.proofs.Common.{◌≡◌, ◌-◌, ℕ, suc, false, length, get_or}
use Rattle.rx_turtle.proofs.lengths.Lengths.make_room.Given as goal

abbrev pub invariant-loop-self : goal.invariant-loop-self
invariant-loop-self l = (n : ℕ) → get_or l.self-inside.marks.items n false ≡ get_or l.fn.self n false

abbrev pub decreases-loop-self : goal.decreases-loop-self
decreases-loop-self l = suc l.size - length l.self-inside.marks.items
