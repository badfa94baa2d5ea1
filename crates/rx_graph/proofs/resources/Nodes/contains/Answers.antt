use Rattle.rx_model.proofs.Common.{◌∙◌, nat_eq, same_node}
use Rattle.rx_graph.specs.Resources.{resource_seen}
use Rattle.rx_graph.proofs.SetLemmas.{any_seen}
use Rattle.rx_graph.proofs.CodeEq.{resource_eq, resources_agree_back}
use Rattle.rx_graph.proofs.resources.Nodes.contains.Goals as goal

pub returns : goal.returns
returns c = rw (← c.self.view_is) (c.contains.ensures ∙ any_seen resource_seen resource_eq (same_node nat_eq) resources_agree_back c.self.inside.nodes c.args.node)
