use Rattle.rx_jsonld.proofs.Common.{on_ok_weaker, triples_seen, shape_in, group_made, values_at}
use Rattle.rx_jsonld.proofs.texts.write_group.Goals as goal

pub returns : goal.returns
returns g c =
    on_ok_weaker c.end_seq.result
    (λ ended. group_made _ c.args.key.now (values_at (triples_seen c.args.graph.now) (shape_in c.args.shapes.now) c.args.places.now) c.in_ok-key.ensures c.in_ok-begin_seq.ensures c.in_ok-write_places.ensures ended)
    c.end_seq.ensures
