use Rattle.std.proofs.Common.{arith, ◌<◌, length}
use Rattle.rx_walk.proofs.Staging.{got, replay_may, replay_more}
use Rattle.rx_walk.proofs.evaluation.replay.Goals as goal

pub tell-requires : goal.tell-requires
tell-requires c =
    let here : c.loop-call.call-index < length c.args.queue.now = omega (arith, c.loop-call-test.true) in
    replay_may c.args.queue.now c.loop-call.call-index c.call-item.result c.args.eval.now c.loop-call.eval (got c.args.queue.now c.loop-call.call-index c.call-item.result c.call-item.result here c.call-item.is) c.loop-call.invariant

pub loop-call-preserved : goal.loop-call-preserved
loop-call-preserved c =
    let here : c.loop-call.call-index < length c.args.queue.now = omega (arith, c.loop-call-test.true) in
    replay_more c.args.queue.now c.loop-call.call-index c.call-item.result c.args.eval.now c.loop-call.eval c.tell.new.eval (got c.args.queue.now c.loop-call.call-index c.call-item.result c.call-item.result here c.call-item.is) c.loop-call.invariant c.in_ok-tell.ensures
