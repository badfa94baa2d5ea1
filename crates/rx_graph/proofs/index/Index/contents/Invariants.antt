use Rattle.rx_graph.specs.Copying.{AreContents}
use Rattle.rx_graph.proofs.index.Index.contents.Given as goal

abbrev pub invariant-loop-i : goal.invariant-loop-i
invariant-loop-i l = AreContents l.self.nodes l.self.roots l.self.lead l.self.nexts l.self.own l.rows
