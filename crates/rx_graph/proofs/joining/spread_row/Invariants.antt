use Rattle.std.proofs.Common.{◌≡◌, drop}
use Rattle.rx_graph.specs.Ways.{spread_all}
use Rattle.rx_graph.proofs.joining.spread_row.Given as goal

abbrev pub invariant-loop-number : goal.invariant-loop-number
invariant-loop-number l = spread_all l.mark l.marks (drop l.number-index l.row) ≡ spread_all l.mark l.fn.marks l.row
