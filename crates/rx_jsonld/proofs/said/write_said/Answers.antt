use Rattle.rx_jsonld.proofs.Common.{ap, on_ok_weaker, triple_seen, triples_seen, shape_in, data_events, told_as}
use Rattle.rx_jsonld.proofs.EventLemmas.{object_told}
use Rattle.rx_jsonld.proofs.said.write_said.Goals as goal

pub returns-in-None : goal.returns-in-None
returns-in-None g c =
    on_ok_weaker c.write_object.result
    (λ wrote. told_as _ _ (ap data_events (object_told (triples_seen c.args.graph.now) (shape_in c.args.shapes.now) (triple_seen c.args.triple.now) c.in-None.ensures)) wrote)
    c.write_object.ensures
