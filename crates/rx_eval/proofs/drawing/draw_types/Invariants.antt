use Rattle.rx_eval.proofs.DrawLemmas.{DrawnTypes}
use Rattle.rx_eval.proofs.drawing.draw_types.Given as goal

abbrev pub invariant-loop-i : goal.invariant-loop-i
invariant-loop-i l = DrawnTypes l.initial.labels l.fn.next l.types l.i l.labels l.after
