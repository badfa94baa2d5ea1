use Rattle.std.proofs.Common.{◌≡◌, drop}
use Rattle.rx_graph.specs.Ways.{led_all}
use Rattle.rx_graph.proofs.reached.Reached.add_led.Given as goal

abbrev pub invariant-loop-number : goal.invariant-loop-number
invariant-loop-number l = led_all l.lead l.self (drop l.number-index l.row) ≡ led_all l.lead l.fn.self l.row
