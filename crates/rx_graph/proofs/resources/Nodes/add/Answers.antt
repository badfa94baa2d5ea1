use Rattle.std.proofs.Common.{◌∙◌, ap, map}
use Rattle.rx_graph.specs.Resources.{resource_seen}
use Rattle.rx_graph.proofs.NodeLemmas.{node_added_seen}
use Rattle.rx_graph.proofs.resources.Nodes.add.Goals as goal

pub returns-clause-ok : goal.returns-clause-ok
returns-clause-ok c = ap (map resource_seen) c.in_ok-insert.ensures.keys
    ∙ rw (← c.self.view_is) (node_added_seen c.self.inside.nodes c.args.node)
