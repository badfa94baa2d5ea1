use Rattle.std.proofs.Common.{arith}
use Rattle.rx_graph.proofs.WayLemmas.{walking_start, walking_turn, walking_end, walked_few}
use Rattle.rx_graph.proofs.reached.reach.Goals as goal

pub loop-done-init : goal.loop-done-init
loop-done-init c = walking_start c.args.nexts.now c.args.lead.now c.args.from _ _ _ c.len.ensures c.new-reached.ensures c.in_ok-add_below.ensures

pub loop-done-smaller : goal.loop-done-smaller
loop-done-smaller c =
    let few = walked_few c.args.nexts.now c.args.lead.now c.args.from c.loop-done.reached c.loop-done.done c.len-in-loop-done.ensures.each_once c.loop-done.invariant in
    omega (arith, few, c.loop-done-test.true, c.len-in-loop-done.ensures.len)

pub loop-done-preserved : goal.loop-done-preserved
loop-done-preserved c = walking_turn c.args.nexts.now c.args.lead.now c.args.from c.at.result c.loop-done.reached _ c.numbers.result.now c.loop-done.done c.at.ensures c.numbers.ensures c.in_ok-add_led.ensures c.loop-done.invariant

pub returns : goal.returns
returns c = walking_end c.args.nexts.now c.args.lead.now c.args.from c.loop-done.reached c.loop-done.done (omega (arith, c.loop-done-test.false, c.len-in-loop-done.ensures.len)) c.loop-done.invariant
