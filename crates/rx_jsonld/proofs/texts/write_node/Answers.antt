use Rattle.rx_jsonld.proofs.Common.{◌∙◌, ap, codes, on_ok_weaker, Members, object, member, no_members, node_seen, triples_seen, shape_in, data_events, told_as, id_text, string_of}
use Rattle.rx_jsonld.proofs.GroupLemmas.{node_made}
use Rattle.rx_jsonld.proofs.PlaceLemmas.{said_found}
use Rattle.rx_jsonld.proofs.texts.write_node.Goals as goal

pub returns : goal.returns
returns g c writable =
    let list = triples_seen c.args.graph.now in
    let shapes = shape_in c.args.shapes.now in
    let subject = node_seen c.args.subject.now in
    let said = c.in-Ok.ensures shapes ∙ said_found list shapes subject c.args.places.now no_members c.requires.places in
    let whole = ap (λ (ms : Members). object (member (codes "@id") (string_of (id_text subject)) ms)) said ∙ node_made list shapes subject writable in
    on_ok_weaker c.write_object-written.result (λ written. told_as _ _ (ap data_events whole) written) c.write_object-written.ensures
