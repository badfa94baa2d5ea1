use Rattle.rx_jsonld.proofs.Common.{triples_seen, shape_in, members_events, Left, grouped}
use Rattle.rx_jsonld.proofs.texts.write_groups.Given as goal

abbrev pub invariant-loop-key : goal.invariant-loop-key
invariant-loop-key g l =
    Left (g.S.Serializer.written l.fn.out) (g.S.Serializer.written l.out) (members_events (grouped (triples_seen l.graph) (shape_in l.shapes) l.key-iterator))
    (members_events (grouped (triples_seen l.graph) (shape_in l.shapes) l.groups.entries))
