use Rattle.rx_graph.proofs.WayLemmas.{marked_back}
use Rattle.rx_graph.proofs.joining.join.Goals as goal

pub roots-requires-clause-back : goal.roots-requires-clause-back
roots-requires-clause-back c = marked_back c.args.links.now c.in_ok-turned.turned _ c.in_ok-turned.ensures c.in_ok-back.ensures
