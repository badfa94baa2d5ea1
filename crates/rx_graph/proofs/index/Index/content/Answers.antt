use Rattle.rx_graph.proofs.CopyLemmas.{content_found}
use Rattle.rx_graph.proofs.index.Index.content.Goals as goal

pub returns : goal.returns
returns c = content_found c.args.self.now.nodes c.args.self.now.roots c.args.self.now.lead c.args.self.now.nexts c.args.self.now.own c.args.from c.in_ok-reached.reached _ c.in_ok-reached.ensures c.in_ok-places.ensures.once c.in_ok-places.ensures.all c.in_ok-places.ensures.rises
