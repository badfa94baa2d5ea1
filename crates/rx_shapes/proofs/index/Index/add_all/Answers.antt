use Rattle.rx_shapes.proofs.Common.{arith}
use Rattle.rx_shapes.proofs.IndexLemmas.{has_none, nodes_turn, nodes_end}
use Rattle.rx_shapes.proofs.index.Index.add_all.Goals as goal

pub loop-i-init : goal.loop-i-init
loop-i-init c = has_none c.args.self.now

pub loop-i-preserved : goal.loop-i-preserved
loop-i-preserved c = nodes_turn c.args.graph.now c.loop-i.i c.at.result.now c.loop-i.self _ c.at.ensures c.in_ok-add_triple.ensures c.loop-i.invariant

pub returns : goal.returns
returns c = record {
  each_once = c.len-i-end.ensures.each_once;
  has = nodes_end c.args.graph.now c.loop-i.i c.loop-i.self (omega (arith, c.loop-i-test.false, c.len-i-end.ensures.len)) c.loop-i.invariant;
}
