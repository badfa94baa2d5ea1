use Rattle.rx_jsonld.proofs.Common.{drop, triples_seen, shape_in, each_events, value_at, values_at}
use Rattle.rx_json.proofs.GrowLemmas.{turn, ends_at, row_turn, row_end}
use Rattle.rx_jsonld.proofs.texts.write_places.Goals as goal

pub loop-place-preserved : goal.loop-place-preserved
loop-place-preserved g c =
    turn (row_turn (value_at (triples_seen c.args.graph.now) (shape_in c.args.shapes.now)) c.args.places.now c.loop-place.place-index _ c.loop-place-test.true) c.loop-place.invariant c.in_ok-write_place.ensures

pub returns : goal.returns
returns g c =
    ends_at (each_events (values_at (triples_seen c.args.graph.now) (shape_in c.args.shapes.now) (drop c.loop-place.place-index c.args.places.now)))
    (row_end (value_at (triples_seen c.args.graph.now) (shape_in c.args.shapes.now)) c.args.places.now c.loop-place.place-index c.loop-place-test.false) c.loop-place.invariant
