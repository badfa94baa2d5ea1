use Rattle.rx_shapes.proofs.Common.{◌≡◌, drop, triples_seen, object_among, predicate_of}
use Rattle.rx_shapes.proofs.cells.object_of.Given as goal

abbrev pub invariant-loop-place : goal.invariant-loop-place
invariant-loop-place l =
    object_among (triples_seen l.graph) (drop l.place-index l.places) (predicate_of l.part) ≡ object_among (triples_seen l.graph) l.places (predicate_of l.part)
