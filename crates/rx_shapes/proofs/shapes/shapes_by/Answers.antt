use Rattle.rx_shapes.proofs.Common.{◌∙◌, ap₂, get_or, false, shape_by}
use Rattle.rx_shapes.proofs.RowLemmas.{table_turn}
use Rattle.rx_shapes.proofs.shapes.shapes_by.Goals as goal

pub loop-i-preserved : goal.loop-i-preserved
loop-i-preserved c = table_turn (λ k. shape_by (get_or c.args.inner.now k false) (get_or c.args.cells.now k false)) c.loop-i.i c.shape_by.result _ _
    (c.shape_by.ensures ∙ ap₂ shape_by c.mark.ensures c.mark-in-loop-i.ensures) c.in_ok-push.ensures.items c.loop-i.invariant
