use Rattle.rx_turtle.proofs.Common.{◌∙◌, ap, sym, subst, length, triples_seen, names_rise, nested, marked_all, unmarked}
use Rattle.rx_shapes.specs.Table.{shape_in}
use Rattle.rx_turtle.specs.Nested.{iris_of_tokens, AreWritable}
use Rattle.rx_turtle.proofs.NestedLemmas.{nested_is, marks_long, text_denotes}
use Rattle.rx_turtle.proofs.nested_plan.NestedPlan.of.Goals as goal

pub returns-clause-text : goal.returns-clause-text
returns-clause-text c =
    nested_is c.token_marks.new.shorts _ c.in-Ok.tokens.items c.in-Ok.ensures _ (ap names_rise c.token_marks.ensures.same ∙ c.in-Ok-token_marks.ensures.in_order)
    (c.in-Ok-token_marks.ensures.marks ∙ ap (λ z. marked_all z (unmarked z) (iris_of_tokens c.deref.result.now)) (sym c.token_marks.ensures.same)
    ∙ ap (λ z. marked_all c.token_marks.new.shorts (unmarked c.token_marks.new.shorts) (iris_of_tokens z)) c.deref.ensures.value)
    ∙ ap (λ z. nested z (triples_seen c.args.graph.now) (shape_in c.args.shapes.now)) (c.token_marks.ensures.same ∙ c.in_ok-shorts.ensures.prefixes)

pub returns-clause-sizes : goal.returns-clause-sizes
returns-clause-sizes c =
    ap length c.in-Ok-token_marks.ensures.marks ∙ marks_long c.in_ok-shorts.shorts c.in-Ok-token_marks.ensures.in_order (iris_of_tokens c.deref.result.now)
    ∙ ap length (sym c.token_marks.ensures.same)

pub returns-clause-denotes : goal.returns-clause-denotes
returns-clause-denotes c =
    text_denotes c.args.context.now.prefixes _ c.in-Ok.tokens.items c.in-Ok.ensures c.in_ok-shorts.ensures.rows (subst AreWritable c.deref.ensures.value c.in-Ok-token_marks.ensures.writable)
    (ap names_rise (sym c.in_ok-shorts.ensures.prefixes) ∙ c.in-Ok-token_marks.ensures.in_order) c.requires c.is_graph.ensures.writable c.is_graph.ensures.once
