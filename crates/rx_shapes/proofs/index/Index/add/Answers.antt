use Rattle.rx_shapes.proofs.Common.{◌∙◌, ap, map, node_seen}
use Rattle.rx_shapes.proofs.IndexLemmas.{node_added_seen}
use Rattle.rx_shapes.proofs.index.Index.add.Goals as goal

pub returns : goal.returns
returns c = ap (map node_seen) c.in_ok-insert.ensures.keys
    ∙ rw (← c.self.view_is) (node_added_seen c.self.inside.nodes c.args.node)
