use Rattle.std.proofs.Common.{◌≡◌, drop}
use Rattle.rx_graph.specs.Ways.{next_row}
use Rattle.rx_graph.proofs.joining.next_row.Given as goal

abbrev pub invariant-loop-number : goal.invariant-loop-number
invariant-loop-number l = next_row l.roots l.root l.nexts (drop l.number-index l.row) ≡ next_row l.roots l.root l.fn.nexts l.row
