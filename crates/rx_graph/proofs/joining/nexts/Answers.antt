use Rattle.std.proofs.Common.{arith}
use Rattle.rx_graph.proofs.WayLemmas.{nexts_start, nexts_turn, nexts_end}
use Rattle.rx_graph.proofs.joining.nexts.Goals as goal

pub loop-number-init : goal.loop-number-init
loop-number-init c = nexts_start c.args.links.now c.args.roots.now _ _ c.len.ensures c.in_ok-nexts.ensures

pub loop-number-preserved : goal.loop-number-preserved
loop-number-preserved c = nexts_turn c.args.links.now c.args.roots.now c.loop-number.nexts _ c.loop-number.number c.at.result c.numbers.result.now c.requires (omega (arith, c.loop-number-test.true, c.len-number-end.ensures)) c.numbers.ensures c.at.ensures c.in_ok-next_row.ensures c.loop-number.invariant

pub returns : goal.returns
returns c = nexts_end c.args.links.now c.args.roots.now _ c.loop-number.number (omega (arith, c.loop-number-test.false, c.len-number-end.ensures)) c.loop-number.invariant
