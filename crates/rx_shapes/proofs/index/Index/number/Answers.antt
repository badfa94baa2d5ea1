use Rattle.rx_shapes.proofs.Common.{◌∙◌}
use Rattle.rx_shapes.proofs.IndexLemmas.{number_seen}
use Rattle.rx_shapes.proofs.index.Index.number.Goals as goal

pub returns : goal.returns
returns c = rw (← c.self.view_is) (c.get_index_of.ensures.index ∙ number_seen c.self.inside.nodes c.args.node.now)
