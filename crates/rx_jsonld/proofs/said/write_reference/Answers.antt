use Rattle.rx_jsonld.proofs.Common.{◌∷◌, codes, refl, on_ok_weaker, AsIs, member, no_members, data_events, one, both, object_made, id_text, string_of}
use Rattle.serde.specs.Event as event
use Rattle.rx_graph.specs.Resources.{resource_seen}
use Rattle.rx_jsonld.proofs.said.write_reference.Goals as goal

pub returns : goal.returns
returns g c =
    let id = string_of (id_text (resource_seen c.args.node)) in
    on_ok_weaker c.end_map.result
    (λ ended. object_made (event.field_key (codes "@id") AsIs ∷ data_events id) (member (codes "@id") id no_members) refl c.in_ok-begin_map.ensures
    (both (one _ _ (event.field_key (codes "@id") AsIs) c.in_ok-key.ensures) c.in_ok-write_id.ensures) ended)
    c.end_map.ensures
