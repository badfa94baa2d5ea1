use Rattle.rx_eval.proofs.Common.{ToCome, ◌++◌, map, drop, waiting_seen, reverse_by}
use Rattle.rx_eval.proofs.frames.push_reverse.Given as goal

abbrev pub invariant-loop-i : goal.invariant-loop-i
invariant-loop-i l = ToCome (map waiting_seen l.waiting.items) (map reverse_by (drop l.i l.predicates)) (map waiting_seen l.initial.waiting.items ++ map reverse_by l.predicates)
