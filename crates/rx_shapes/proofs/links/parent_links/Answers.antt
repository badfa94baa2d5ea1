use Rattle.rx_shapes.proofs.Common.{◌∙◌, ap, get_or, [], triples_seen, parent_link}
use Rattle.rx_shapes.proofs.RowLemmas.{table_turn}
use Rattle.rx_shapes.proofs.links.parent_links.Goals as goal

pub loop-i-preserved : goal.loop-i-preserved
loop-i-preserved c = table_turn (λ k. parent_link (triples_seen c.args.graph.now) c.args.index.now (get_or c.args.uses.now k [])) c.loop-i.i c.parent_link.result _ _
    (c.parent_link.ensures ∙ ap (parent_link (triples_seen c.args.graph.now) c.args.index.now) c.row.ensures) c.in_ok-push.ensures.items c.loop-i.invariant
