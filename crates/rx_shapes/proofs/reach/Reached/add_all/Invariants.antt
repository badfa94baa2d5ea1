use Rattle.rx_shapes.proofs.Common.{◌≡◌, drop, reach_all}
use Rattle.rx_shapes.proofs.reach.Reached.add_all.Given as goal

abbrev pub invariant-loop-number : goal.invariant-loop-number
invariant-loop-number l = reach_all l.self (drop l.number-index l.numbers) ≡ reach_all l.fn.self l.numbers
