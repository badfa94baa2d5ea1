use Rattle.std.proofs.Common.{arith, ◌<◌, length}
use Rattle.rx_turtle.proofs.UseLemmas.{unmarked_turn}
use Rattle.rx_turtle.proofs.uses.unmarked.Goals as goal

pub loop-preserved : goal.loop-preserved
loop-preserved c =
    let within : c.loop.counter < length c.args.shorts.now = omega (arith, c.loop-test.true, c.len-end.ensures.len) in
    unmarked_turn c.args.shorts.now c.loop.counter c.loop.marks.items _ within c.in_ok-push.ensures.items c.loop.invariant
