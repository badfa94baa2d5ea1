use Rattle.rx_graph.proofs.CopyLemmas.{contents_turn}
use Rattle.rx_graph.proofs.index.Index.add_content.Goals as goal

pub returns : goal.returns
returns c = contents_turn c.args.self.now.nodes c.args.self.now.roots c.args.self.now.lead c.args.self.now.nexts c.args.self.now.own c.args.rows.now _ c.in-Some-lead_of.from c.in_ok-places.places.items c.in_ok-places.ensures c.fill.ensures c.requires
