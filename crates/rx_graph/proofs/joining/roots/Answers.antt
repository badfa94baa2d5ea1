use Rattle.rx_graph.proofs.WayLemmas.{joined_start, joined_turn}
use Rattle.rx_graph.proofs.joining.roots.Goals as goal

pub loop-number-init : goal.loop-number-init
loop-number-init c = joined_start c.args.links.now _ _ c.len.ensures c.in_ok-roots.ensures

pub loop-number-preserved : goal.loop-number-preserved
loop-number-preserved c = joined_turn c.args.links.now c.args.back.now c.args.forth.now c.requires.back c.requires.forth c.loop-number.number c.root_of.result _ c.len-in-loop-number.ensures c.root_of.ensures c.loop-number.roots _ c.set.ensures c.loop-number.invariant
