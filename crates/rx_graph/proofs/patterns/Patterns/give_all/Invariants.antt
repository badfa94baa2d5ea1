use Rattle.rx_model.proofs.Common.{◌≡◌, filter_map, take, nat_eq, same_triple, with_all, node_seen, triples_seen}
use Rattle.rx_graph.specs.Copying.{given_at}
use Rattle.rx_graph.proofs.patterns.Patterns.give_all.Given as goal

abbrev pub invariant-loop-place : goal.invariant-loop-place
invariant-loop-place l = triples_seen l.gathering ≡ with_all (same_triple nat_eq) (triples_seen l.fn.gathering) (filter_map (given_at (triples_seen l.self) (node_seen l.subject)) (take l.place-index l.places))
