use Rattle.rx_shapes.proofs.Common.{triples_seen}
use Rattle.rx_shapes.proofs.ShapeLemmas.{are_shapes}
use Rattle.rx_shapes.proofs.shapes.Shapes.of.Goals as goal

pub returns : goal.returns
returns c = are_shapes (triples_seen c.args.graph.now) c.in_ok-nodes.nodes c.in_ok-nodes.ensures c.in-Ok.places c.in-Ok-shapes_of.shapes.items c.in-Ok.ensures c.in-Ok-shapes_of.ensures
