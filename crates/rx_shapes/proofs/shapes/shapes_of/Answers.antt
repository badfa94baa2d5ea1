use Rattle.rx_shapes.proofs.Common.{◌∙◌, sym, subst, ap₂, triples_seen, AreInner, shapes_by}
use Rattle.rx_shapes.proofs.ShapeLemmas.{have_shapes}
use Rattle.rx_shapes.proofs.shapes.shapes_of.Goals as goal

pub cell_nodes-requires-clause-inner : goal.cell_nodes-requires-clause-inner
cell_nodes-requires-clause-inner c = subst (AreInner (triples_seen c.args.graph.now) c.args.nodes.now) (sym c.deref.ensures.value) c.in_ok-inner.ensures

pub returns : goal.returns
returns c = have_shapes (triples_seen c.args.graph.now) c.args.nodes.now c.requires.nodes c.deref-2.result.now
    (subst (AreInner (triples_seen c.args.graph.now) c.args.nodes.now) (sym c.deref-2.ensures.value) c.in_ok-inner.ensures)
    c.in_ok-cells.cells.items c.in_ok-shapes_by.field-0.items c.in_ok-cells.ensures
    (c.in_ok-shapes_by.ensures ∙ ap₂ (λ cells n. shapes_by c.deref-2.result.now cells n) c.deref-3.ensures.value c.len.ensures)
