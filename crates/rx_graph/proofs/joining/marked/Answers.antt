use Rattle.rx_graph.proofs.WayLemmas.{marked_start}
use Rattle.rx_graph.proofs.joining.marked.Goals as goal

pub loop-i-init : goal.loop-i-init
loop-i-init c = marked_start c.args.rows.now _ _ c.len.ensures c.in_ok-marks.ensures
