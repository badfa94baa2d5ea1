use Rattle.rx_eval.proofs.Common.{drop, ToCome}
use Rattle.rx_eval.proofs.frames.clone_iris.Given as goal

abbrev pub invariant-loop-i : goal.invariant-loop-i
invariant-loop-i l = ToCome l.copy (drop l.i l.iris) l.iris
