use Rattle.rx_jsonld.proofs.Common.{drop, triples_seen, shape_in, each_events, Left, values_at}
use Rattle.rx_jsonld.proofs.texts.write_places.Given as goal

abbrev pub invariant-loop-place : goal.invariant-loop-place
invariant-loop-place g l =
    Left (g.S.Serializer.written l.fn.out) (g.S.Serializer.written l.out) (each_events (values_at (triples_seen l.graph) (shape_in l.shapes) (drop l.place-index l.places)))
    (each_events (values_at (triples_seen l.graph) (shape_in l.shapes) l.places))
