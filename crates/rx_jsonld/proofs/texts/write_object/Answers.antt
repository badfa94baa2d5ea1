use Rattle.rx_jsonld.proofs.Common.{◌∷◌, ◌++◌, ℕ, codes, refl, ap, on_ok_weaker, AsIs, member, node_seen, triples_seen, Node, shape_in, data_events, members_events, one, both, told_as, object_made, grouped, id_text, string_of}
use Rattle.serde.specs.Event as event
use Rattle.rx_jsonld.proofs.texts.write_object.Goals as goal

pub returns : goal.returns
returns g c =
    let id = string_of (id_text (node_seen c.args.subject.now)) in
    let said = grouped (triples_seen c.args.graph.now) (shape_in c.args.shapes.now) c.args.groups.now.entries in
    on_ok_weaker c.end_map.result
    (λ ended. object_made (event.field_key (codes "@id") AsIs ∷ (data_events id ++ members_events said)) (member (codes "@id") id said) refl c.in_ok-begin_map.ensures
    (both (one _ _ (event.field_key (codes "@id") AsIs) c.in_ok-key.ensures)
    (both (told_as _ (data_events id) (ap (λ (n : Node ℕ). data_events (string_of (id_text n))) c.of_node.ensures) c.in_ok-write_id.ensures) c.in_ok-write_groups.ensures)) ended)
    c.end_map.ensures
