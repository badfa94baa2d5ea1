use Rattle.rx_shapes.proofs.Common.{◌≡◌, shapes_by}
use Rattle.rx_shapes.proofs.shapes.shapes_by.Given as goal

abbrev pub invariant-loop-i : goal.invariant-loop-i
invariant-loop-i l = l.shapes.items ≡ shapes_by l.inner l.cells l.i
