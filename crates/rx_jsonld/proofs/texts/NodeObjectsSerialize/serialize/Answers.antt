use Rattle.rx_jsonld.proofs.Common.{triples_seen, shape_in, jsonld}
use Rattle.rx_jsonld.proofs.EventLemmas.{of_writable}
use Rattle.rx_jsonld.proofs.texts.NodeObjectsSerialize.serialize.Goals as goal

pub returns : goal.returns
returns g c = of_writable _ _ _ (jsonld (triples_seen c.args.self.now.graph.now) (shape_in c.args.self.now.shapes.now)) c.write_nodes.result c.write_nodes.ensures
