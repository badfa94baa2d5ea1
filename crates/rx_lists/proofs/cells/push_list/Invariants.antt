use Rattle.rx_model.proofs.Common.{◌+◌, ◌++◌, length, map, filter_map, drop, node_seen, term_seen, triples_seen}
use Rattle.rx_lists.specs.Owners.{itself}
use Rattle.rx_lists.specs.Cells.{linked_cells}
use Rattle.rx_lists.proofs.CellLemmas.{Left}
use Rattle.rx_lists.proofs.cells.push_list.Given as goal

abbrev pub invariant-loop-slot : goal.invariant-loop-slot
invariant-loop-slot l =
    Left (triples_seen l.out) l.cell (node_seen l.end.node) l.end.by (drop l.slot-index l.slots)
    (triples_seen l.initial.out ++ linked_cells l.fn.first (node_seen l.fn.subject) l.fn.predicate (map term_seen (filter_map itself l.slots)))
    (l.fn.first + length (filter_map itself l.slots))
