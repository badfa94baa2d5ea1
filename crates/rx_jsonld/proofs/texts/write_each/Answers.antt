use Rattle.rx_jsonld.proofs.Common.{refl, take, node_seen, triples_seen, shape_in, each_turn, node_at}
use Rattle.rx_jsonld.proofs.PlaceLemmas.{nodes_until, node_turn}
use Rattle.rx_jsonld.proofs.texts.write_each.Goals as goal

pub loop-i-preserved : goal.loop-i-preserved
loop-i-preserved g c writable =
    let shapes = shape_in c.args.shapes.now in
    let i = c.loop-i.i in
    let front = nodes_until c.args.graph.now shapes (take i c.args.graph.now) in
    each_turn front (node_at (triples_seen c.args.graph.now) shapes i (node_seen c.at.result.now.subject)) _ (node_turn c.args.graph.now shapes i c.at.result.now front _ c.at.ensures refl refl)
    (c.loop-i.invariant writable) (c.in_ok-write_first.ensures writable)
