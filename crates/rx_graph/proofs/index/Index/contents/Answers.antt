use Rattle.rx_graph.proofs.CopyLemmas.{contents_start}
use Rattle.rx_graph.proofs.index.Index.contents.Goals as goal

pub loop-i-init : goal.loop-i-init
loop-i-init c = contents_start c.args.self.now.nodes c.args.self.now.roots c.args.self.now.lead c.args.self.now.nexts c.args.self.now.own _ _ c.in_ok-rows.ensures
