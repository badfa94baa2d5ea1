use Rattle.rx_jsonld.proofs.Common.{◌≡◌, ◌++◌, [], ◌∷◌, rules, AsIs, triples_seen, shape_in, data_events, members_events, array_at, grouped}
use Rattle.serde.specs.Event as event
use Rattle.rx_json.proofs.GrowLemmas.{turn, ends_at}
use Rattle.rx_jsonld.proofs.texts.write_groups.Goals as goal

pub loop-key-preserved : goal.loop-key-preserved
loop-key-preserved g c =
    let list = triples_seen c.args.graph.now in
    let shapes = shape_in c.args.shapes.now in
    let same : (event.field_key c.in-Some.key.now.now AsIs ∷ data_events (array_at list shapes c.deref.result.now)) ++ members_events (grouped list shapes c.next.new.self) ≡ members_events (grouped list shapes c.loop-key.key-iterator) = search rules in
    turn same c.loop-key.invariant c.in_ok-write_group.ensures

pub returns : goal.returns
returns g c =
    let done : members_events (grouped (triples_seen c.args.graph.now) (shape_in c.args.shapes.now) c.loop-key.key-iterator) ≡ [] = search rules in
    ends_at _ done c.loop-key.invariant
