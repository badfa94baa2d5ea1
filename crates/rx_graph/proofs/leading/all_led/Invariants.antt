use Rattle.std.proofs.Common.{◌≡◌, drop}
use Rattle.rx_graph.specs.Ways.{all_led}
use Rattle.rx_graph.proofs.leading.all_led.Given as goal

abbrev pub invariant-loop-number : goal.invariant-loop-number
invariant-loop-number l = all_led l.lead l.to (drop l.number-index l.row) ≡ all_led l.lead l.to l.row
