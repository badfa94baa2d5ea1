use Rattle.rx_graph.proofs.NodeLemmas.{nodes_once}
use Rattle.rx_graph.proofs.resources.Nodes.len.Goals as goal

pub returns-clause-each_once : goal.returns-clause-each_once
returns-clause-each_once c = rw (← c.self.view_is) (nodes_once c.self.inside.nodes c.len.ensures.unique)
