use Rattle.rx_eval.proofs.Common.{ToCome, ◌++◌, map, drop, waiting_seen, forward_by}
use Rattle.rx_eval.proofs.frames.push_forward.Given as goal

abbrev pub invariant-loop-i : goal.invariant-loop-i
invariant-loop-i l = ToCome (map waiting_seen l.waiting.items) (map (forward_by l.inlist l.owner.0) (drop l.i l.predicates)) (map waiting_seen l.initial.waiting.items ++ map (forward_by l.inlist l.owner.0) l.predicates)
