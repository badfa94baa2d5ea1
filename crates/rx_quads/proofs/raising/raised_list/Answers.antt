use Rattle.std.proofs.Common.{arith}
use Rattle.rx_quads.proofs.RaisedLemmas.{raised_turn, raised_end}
use Rattle.rx_quads.proofs.raising.raised_list.Goals as goal

pub loop-i-preserved : goal.loop-i-preserved
loop-i-preserved c = raised_turn c.args.first c.args.graph.now c.loop-i.i _ _ _ _ c.at.ensures c.loop-i.invariant c.in_ok-raised_triple.ensures c.in_ok-push.ensures.ok

pub returns : goal.returns
returns c = raised_end c.args.first c.args.graph.now c.loop-i.i c.loop-i.list (omega (arith, c.loop-i-test.false, c.len-i-end.ensures.len)) c.len-i-end.ensures.each_once c.loop-i.invariant
