use Rattle.rx_jsonld.proofs.Common.{map, on_ok_weaker, triples_seen, shape_in, array_made, node_value, tops}
use Rattle.rx_jsonld.proofs.texts.write_nodes.Goals as goal

pub returns : goal.returns
returns g c writable =
    let list = triples_seen c.args.graph.now in
    let shapes = shape_in c.args.shapes.now in
    on_ok_weaker c.end_seq.result
    (λ ended. array_made (map (node_value list shapes) (tops list shapes)) c.in_ok-begin_seq.ensures (c.in_ok-write_each.ensures writable) ended)
    c.end_seq.ensures
