use Rattle.rx_jsonld.proofs.Common.{take, triples_seen, shape_in, IsWritable, Grows, each_events}
use Rattle.rx_jsonld.proofs.PlaceLemmas.{nodes_until}
use Rattle.rx_jsonld.proofs.texts.write_each.Given as goal

abbrev pub invariant-loop-i : goal.invariant-loop-i
invariant-loop-i g l =
    IsWritable (triples_seen l.graph) → Grows (g.S.Serializer.written l.fn.out) (g.S.Serializer.written l.out) (each_events (nodes_until l.graph (shape_in l.shapes) (take l.i l.graph)))
