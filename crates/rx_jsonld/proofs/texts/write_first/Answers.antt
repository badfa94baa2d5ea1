use Rattle.rx_jsonld.proofs.Common.{◌∙◌, ℕ, List, ap, sym, not, ◌&&◌, on_ok_weaker, node_seen, triples_seen, shape_in, told_as, is_listed, starts_with_place}
use Rattle.rx_jsonld.proofs.EventLemmas.{node_told}
use Rattle.rx_jsonld.proofs.texts.write_first.Goals as goal

pub returns : goal.returns
returns g c writable =
    let list = triples_seen c.args.graph.now in
    let shapes = shape_in c.args.shapes.now in
    let subject = node_seen c.args.subject.now in
    let begins =
    sym (ap (λ (ps : List ℕ). starts_with_place ps c.args.place && not (is_listed shapes list subject)) (c.places-places.ensures ∙ c.requires.shapes subject)) ∙ sym c.begins_node.ensures ∙ c.if-not-begins_node.false in
    on_ok_weaker c.write_node.result (λ wrote. told_as _ _ (node_told list shapes subject _ begins) wrote) (c.write_node.ensures writable)
