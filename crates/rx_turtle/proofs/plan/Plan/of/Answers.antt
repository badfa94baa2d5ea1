use Rattle.rx_turtle.proofs.Common.{◌∙◌, ap, sym, length, triples_seen, names_rise, turtle, used_marks}
use Rattle.rx_turtle.proofs.TextLemmas.{text_is, text_denotes}
use Rattle.rx_turtle.proofs.UseLemmas.{marks_size}
use Rattle.rx_turtle.proofs.plan.Plan.of.Goals as goal

pub returns-clause-text : goal.returns-clause-text
returns-clause-text c =
    text_is c.used_marks.new.shorts (triples_seen c.args.graph.now) _ _ (ap names_rise c.used_marks.ensures.same ∙ c.in-Ok.ensures.in_order)
    (c.in-Ok.ensures.marks ∙ ap (λ z. used_marks z (triples_seen c.args.graph.now)) (sym c.used_marks.ensures.same)) c.in-Ok-arranged.ensures
    ∙ ap (λ z. turtle z (triples_seen c.args.graph.now)) (c.used_marks.ensures.same ∙ c.in_ok-shorts.ensures.prefixes)

pub returns-clause-sizes : goal.returns-clause-sizes
returns-clause-sizes c = ap length c.in-Ok.ensures.marks ∙ marks_size c.in_ok-shorts.shorts c.in-Ok.ensures.in_order (triples_seen c.args.graph.now) ∙ ap length (sym c.used_marks.ensures.same)

pub returns-clause-denotes : goal.returns-clause-denotes
returns-clause-denotes c =
    text_denotes c.args.context.now.prefixes (triples_seen c.args.graph.now) (ap names_rise (sym c.in_ok-shorts.ensures.prefixes) ∙ c.in-Ok.ensures.in_order) c.in_ok-shorts.ensures.rows c.in-Ok.ensures.writable
