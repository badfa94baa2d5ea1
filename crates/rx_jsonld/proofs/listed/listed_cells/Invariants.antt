use Rattle.rx_shapes.specs.Table.{shape_in}
use Rattle.rx_jsonld.proofs.PlaceLemmas.{Gathered}
use Rattle.rx_jsonld.proofs.listed.listed_cells.Given as goal

abbrev pub invariant-loop-i : goal.invariant-loop-i
invariant-loop-i l = Gathered l.graph (shape_in l.shapes) l.i l.cells
