use Rattle.rx_jsonld.proofs.Common.{IfOk-weaker, ◌∙◌, ap, map, subst, sym, Data, triples_seen, shape_in, proper_triple, JsonLd}
use Rattle.serde_json.specs.Written.{has_float}
use Rattle.rx_jsonld.proofs.Denotes.{value_denotes}
use Rattle.rx_jsonld.proofs.PlainLemmas.{values_are_flat}
use Rattle.rx_jsonld.proofs.texts.value.Goals as goal

pub returns-clause-denotes : goal.returns-clause-denotes
returns-clause-denotes c =
    let list = triples_seen c.args.graph.now in
    let shapes = shape_in c.args.shapes.now in
    IfOk-weaker c.made-value.result _ _
    (λ value is. subst (λ (d : Data). JsonLd d (map proper_triple list)) (sym is) (value_denotes list shapes c.in_ok-cells.ensures.writable c.in_ok-cells.ensures.once c.requires.shapes.shape))
    c.made-value.ensures

pub returns-clause-written : goal.returns-clause-written
returns-clause-written c =
    IfOk-weaker c.made-value.result _ _ (λ value is. ap has_float is ∙ values_are_flat.no_float (triples_seen c.args.graph.now) (shape_in c.args.shapes.now)) c.made-value.ensures
