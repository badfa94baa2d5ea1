use Rattle.rx_turtle.proofs.GroupLemmas.{borrowed_turn}
use Rattle.rx_turtle.proofs.lent.borrowed.Goals as goal

pub loop-i-preserved : goal.loop-i-preserved
loop-i-preserved c = borrowed_turn c.args.graph.now c.loop-i.i c.at.result c.loop-i.triples.items c.push.new.self.items c.at.ensures c.in_ok-push.ensures.items c.loop-i.invariant
