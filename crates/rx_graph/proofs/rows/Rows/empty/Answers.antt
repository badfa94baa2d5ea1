use Rattle.std.proofs.Common.{◌∙◌, ◌++◌, ◌∷◌, [], ap, sym}
use Rattle.rx_graph.proofs.PatternLemmas.{empty_more}
use Rattle.rx_graph.proofs.rows.Rows.empty.Goals as goal

pub loop-preserved : goal.loop-preserved
loop-preserved c = c.in_ok-add.ensures.ok ∙ ap (λ z. z ++ [] ∷ []) c.loop.invariant ∙ sym (empty_more c.loop.counter)
