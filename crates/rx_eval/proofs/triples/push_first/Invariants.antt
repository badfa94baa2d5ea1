use Rattle.rx_eval.proofs.Common.{◌++◌, map, drop, node_seen, term_seen, triples_seen, spo, ToCome}
use Rattle.rx_eval.proofs.triples.push_first.Given as goal

abbrev pub invariant-loop-i : goal.invariant-loop-i
invariant-loop-i l =
    ToCome (triples_seen l.out) (map (λ p. spo (node_seen l.subject) p (term_seen l.object)) (drop l.i l.predicates))
    (triples_seen l.initial.out ++ map (λ p. spo (node_seen l.subject) p (term_seen l.object)) l.predicates)
