use Rattle.rx_shapes.proofs.Common.{◌≡◌, inner_marks}
use Rattle.rx_shapes.proofs.links.inner_marks.Given as goal

abbrev pub invariant-loop-i : goal.invariant-loop-i
invariant-loop-i l = l.marks.items ≡ inner_marks l.ends l.uses l.i
