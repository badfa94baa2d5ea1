use Rattle.rx_shapes.proofs.Common.{◌∙◌, ◌++◌, ◌∷◌, [], ap, sym, empty_more}
use Rattle.rx_shapes.proofs.rows.Rows.empty.Goals as goal

pub loop-preserved : goal.loop-preserved
loop-preserved c = c.in_ok-add.ensures ∙ ap (λ z. z ++ [] ∷ []) c.loop.invariant ∙ sym (empty_more c.loop.counter)
