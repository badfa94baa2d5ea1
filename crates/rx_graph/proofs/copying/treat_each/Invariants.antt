use Rattle.rx_model.proofs.Common.{◌≡◌, [], flat_map, take, nat_eq, same_triple, with_all, triples_seen, treated, edges}
use Rattle.rx_graph.proofs.copying.treat_each.Given as goal

abbrev pub invariant-loop-i : goal.invariant-loop-i
invariant-loop-i l = triples_seen l.gathering ≡ with_all (same_triple nat_eq) [] (flat_map (treated nat_eq (triples_seen l.triples) (edges nat_eq (triples_seen l.triples))) (triples_seen (take l.i l.triples)))
