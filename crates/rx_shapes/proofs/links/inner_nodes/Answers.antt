use Rattle.rx_shapes.proofs.Common.{◌∙◌, ap₂, triples_seen, inner_marks}
use Rattle.rx_shapes.proofs.ShapeLemmas.{inner_nodes}
use Rattle.rx_shapes.proofs.links.inner_nodes.Goals as goal

pub returns : goal.returns
returns c = inner_nodes (triples_seen c.args.graph.now) c.args.index.now c.requires c.in_ok-ends.ends.items c.in_ok-inner_marks.field-0.items c.deref.result.now c.in_ok-uses.uses
    c.in_ok-uses.ensures (c.deref.ensures.value ∙ c.in_ok-links.ensures) c.in_ok-ends.ensures
    (c.in_ok-inner_marks.ensures ∙ ap₂ (λ ends n. inner_marks ends c.in_ok-uses.uses n) c.deref-2.ensures.value c.len.ensures)
