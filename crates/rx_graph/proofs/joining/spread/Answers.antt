use Rattle.rx_graph.proofs.WayLemmas.{spread_begun, spread_turn}
use Rattle.rx_graph.proofs.joining.spread.Goals as goal

pub loop-init : goal.loop-init
loop-init c = spread_begun c.args.rows.now c.args.start c.args.marks.now _ c.in_ok-spread_to.ensures c.requires

pub loop-preserved : goal.loop-preserved
loop-preserved c = spread_turn c.args.rows.now _ c.at-mark.result c.numbers.result.now c.loop.marks _ c.numbers.ensures c.at-mark.ensures c.in_ok-spread_row.ensures c.loop.invariant
