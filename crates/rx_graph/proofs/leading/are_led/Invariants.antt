use Rattle.rx_graph.proofs.WayLemmas.{LedTo}
use Rattle.rx_graph.proofs.leading.are_led.Given as goal

abbrev pub invariant-loop-number : goal.invariant-loop-number
invariant-loop-number l = LedTo l.nexts l.own l.lead l.number
