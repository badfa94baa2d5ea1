use Rattle.rx_shapes.proofs.Common.{◌∙◌, ap₂, get_or, [], false, triples_seen, inner_link}
use Rattle.rx_shapes.proofs.RowLemmas.{table_turn}
use Rattle.rx_shapes.proofs.links.cell_links.Goals as goal

pub loop-i-preserved : goal.loop-i-preserved
loop-i-preserved c = table_turn (λ k. inner_link (triples_seen c.args.graph.now) c.args.index.now (get_or c.args.inner.now k false) (get_or c.args.places.now k [])) c.loop-i.i c.inner_link.result _ _
    (c.inner_link.ensures ∙ ap₂ (inner_link (triples_seen c.args.graph.now) c.args.index.now) c.mark.ensures c.row.ensures) c.in_ok-push.ensures.items c.loop-i.invariant
