use Rattle.rx_shapes.proofs.Common.{◌∙◌, triples_seen}
use Rattle.rx_shapes.proofs.ShapeLemmas.{cell_nodes}
use Rattle.rx_shapes.proofs.links.cell_nodes.Goals as goal

pub returns : goal.returns
returns c = cell_nodes (triples_seen c.args.graph.now) c.args.index.now c.requires.nodes c.args.inner.now c.requires.inner c.in_ok-settle.field-0.items c.deref.result.now c.args.places.now
    c.requires.places (c.deref.ensures.value ∙ c.in_ok-links.ensures) c.in_ok-settle.ensures
