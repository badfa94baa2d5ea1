use Rattle.std.proofs.Common.{arith, take_all}
use Rattle.rx_graph.proofs.CopyLemmas.{own_start, own_turn}
use Rattle.rx_graph.proofs.index.own.Goals as goal

pub loop-i-init : goal.loop-i-init
loop-i-init c = own_start c.args.nodes.now c.args.roots.now _ _ c.len.ensures c.in_ok-own.ensures

pub loop-i-preserved : goal.loop-i-preserved
loop-i-preserved c = own_turn c.args.triples.now c.loop-i.i c.at.result.now c.args.nodes.now c.args.roots.now c.loop-i.own _ c.at.ensures c.in_ok-put_own.ensures c.loop-i.invariant

pub returns : goal.returns
returns c = rw (take_all c.loop-i.i c.args.triples.now (omega (arith, c.loop-i-test.false, c.len-i-end.ensures))) at c.loop-i.invariant
