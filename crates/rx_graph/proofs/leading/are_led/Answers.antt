use Rattle.std.proofs.Common.{arith}
use Rattle.rx_graph.proofs.WayLemmas.{led_start, led_turn, led_end}
use Rattle.rx_graph.proofs.leading.are_led.Goals as goal

pub loop-number-init : goal.loop-number-init
loop-number-init c = led_start c.args.nexts.now c.args.own.now c.args.lead.now

pub loop-number-preserved : goal.loop-number-preserved
loop-number-preserved c = led_turn c.args.nexts.now c.args.own.now c.args.lead.now c.loop-number.number c.is_led.result c.numbers.result.now c.numbers-in-loop-number.result.now c.numbers.ensures c.numbers-in-loop-number.ensures c.is_led.ensures c.if-not-is_led.false c.loop-number.invariant

pub returns : goal.returns
returns c = λ told. led_end c.args.nexts.now c.args.own.now c.args.lead.now c.loop-number.number (omega (arith, c.loop-number-test.false, c.len-number-end.ensures)) c.loop-number.invariant
