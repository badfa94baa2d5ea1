use Rattle.std.proofs.Common.{◌≡◌}
use Rattle.rx_graph.specs.Numbering.{numbers_to}
use Rattle.rx_graph.proofs.marks.Marks.own.Given as goal

abbrev pub invariant-loop-number : goal.invariant-loop-number
invariant-loop-number l = l.marks.items ≡ numbers_to l.number
