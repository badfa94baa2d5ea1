use Rattle.rx_shapes.specs.Table.{shape_in}
use Rattle.rx_jsonld.proofs.PlaceLemmas.{gathered_turn}
use Rattle.rx_jsonld.proofs.listed.listed_cells.Goals as goal

pub loop-i-preserved : goal.loop-i-preserved
loop-i-preserved c =
    gathered_turn c.args.graph.now (shape_in c.args.shapes.now) c.loop-i.i c.at-triple.result.now c.loop-i.cells c.add_cells_at.new.cells c.at-triple.ensures c.in_ok-add_cells_at.ensures
    c.is_writable.ensures c.loop-i.invariant
