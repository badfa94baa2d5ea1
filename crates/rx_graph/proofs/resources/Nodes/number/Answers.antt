use Rattle.std.proofs.Common.{◌∙◌}
use Rattle.rx_graph.proofs.NodeLemmas.{number_seen}
use Rattle.rx_graph.proofs.resources.Nodes.number.Goals as goal

pub returns : goal.returns
returns c = rw (← c.self.view_is) (c.get_index_of.ensures.index ∙ number_seen c.self.inside.nodes c.args.node)
