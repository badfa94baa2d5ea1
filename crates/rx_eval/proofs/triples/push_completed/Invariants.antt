use Rattle.rx_eval.proofs.Common.{◌++◌, filter_map, drop, node_seen, triples_seen, completed_by, ToCome}
use Rattle.rx_eval.proofs.triples.push_completed.Given as goal

abbrev pub invariant-loop-one : goal.invariant-loop-one
invariant-loop-one l =
    ToCome (triples_seen l.out) (filter_map (completed_by (node_seen l.above) (node_seen l.subject)) (drop l.one-index l.waiting))
    (triples_seen l.initial.out ++ filter_map (completed_by (node_seen l.above) (node_seen l.subject)) l.waiting)
