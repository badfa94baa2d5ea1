use Rattle.rx_jsonld.proofs.Common.{drop, map, triples_seen, each_events, Left, item_value}
use Rattle.rx_jsonld.proofs.said.write_items.Given as goal

abbrev pub invariant-loop-cell : goal.invariant-loop-cell
invariant-loop-cell g l =
    Left (g.S.Serializer.written l.fn.out) (g.S.Serializer.written l.out) (each_events (map (item_value (triples_seen l.graph)) (map (λ b. b.0) (drop l.cell-index l.cells))))
    (each_events (map (item_value (triples_seen l.graph)) (map (λ b. b.0) l.cells)))
