use Rattle.rx_shapes.proofs.Common.{◌∙◌, ap₂, get_or, [], false, is_inner_by}
use Rattle.rx_shapes.proofs.RowLemmas.{table_turn}
use Rattle.rx_shapes.proofs.links.inner_marks.Goals as goal

pub loop-i-preserved : goal.loop-i-preserved
loop-i-preserved c = table_turn (λ k. is_inner_by (get_or c.args.ends.now k false) (get_or c.args.uses.now k [])) c.loop-i.i c.is_inner_by.result _ _
    (c.is_inner_by.ensures ∙ ap₂ is_inner_by c.mark.ensures c.row.ensures) c.in_ok-push.ensures.items c.loop-i.invariant
