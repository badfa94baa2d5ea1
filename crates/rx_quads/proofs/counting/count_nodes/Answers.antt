use Rattle.std.proofs.Common.{arith, take_all}
use Rattle.rx_quads.proofs.CountLemmas.{past_turn, past_fails}
use Rattle.rx_quads.proofs.counting.count_nodes.Goals as goal

pub loop-i-preserved : goal.loop-i-preserved
loop-i-preserved c = past_turn c.args.graph.now c.loop-i.i _ _ _ c.at.ensures c.loop-i.invariant c.in_ok-count.ensures

pub returns-in_err-count : goal.returns-in_err-count
returns-in_err-count c =
    past_fails c.from_residual.result c.in_err-count.field-0.0 c.args.graph.now c.loop-i.i _ c.loop-i.count c.at.ensures c.loop-i.invariant c.in_err-count.ensures c.from_residual.ensures.1

pub returns : goal.returns
returns c = rw (take_all c.loop-i.i c.args.graph.now (omega (arith, c.loop-i-test.false, c.len-i-end.ensures.len))) at c.loop-i.invariant
