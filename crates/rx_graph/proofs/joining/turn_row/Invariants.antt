use Rattle.std.proofs.Common.{◌≡◌, drop}
use Rattle.rx_graph.specs.Ways.{turned_row}
use Rattle.rx_graph.proofs.joining.turn_row.Given as goal

abbrev pub invariant-loop-to : goal.invariant-loop-to
invariant-loop-to l = turned_row l.number l.turned (drop l.to-index l.row) ≡ turned_row l.number l.fn.turned l.row
