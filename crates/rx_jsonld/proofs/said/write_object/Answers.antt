use Rattle.rx_jsonld.proofs.Common.{ap, on_ok_weaker, triple_seen, triples_seen, shape_in, data_events, told_as}
use Rattle.rx_jsonld.proofs.EventLemmas.{first_told}
use Rattle.rx_jsonld.proofs.said.write_object.Goals as goal

pub returns-in-Some : goal.returns-in-Some
returns-in-Some g c =
    on_ok_weaker c.write_chain.result
    (λ wrote. told_as _ _ (ap data_events (first_told (triples_seen c.args.graph.now) (shape_in c.args.shapes.now) (triple_seen c.args.triple.now) c.in-Some.first.0 c.in-Some.ensures)) wrote)
    c.write_chain.ensures
