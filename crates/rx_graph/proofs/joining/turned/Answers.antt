use Rattle.rx_graph.proofs.WayLemmas.{turned_start, turned_turn}
use Rattle.rx_graph.proofs.joining.turned.Goals as goal

pub loop-number-init : goal.loop-number-init
loop-number-init c = turned_start c.args.links.now _ _ c.len.ensures c.in_ok-turned.ensures

pub loop-number-preserved : goal.loop-number-preserved
loop-number-preserved c = turned_turn c.args.links.now c.loop-number.turned _ c.loop-number.number c.numbers.result.now c.numbers.ensures c.in_ok-turn_row.ensures c.loop-number.invariant
