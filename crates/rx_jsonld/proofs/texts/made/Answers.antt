use Rattle.rx_jsonld.proofs.Common.{[], refl, arith, triples_seen, shape_in, jsonld}
use Rattle.rx_jsonld.proofs.PlainLemmas.{value_flat, value_plain}
use Rattle.rx_jsonld.proofs.texts.made.Goals as goal

pub returns : goal.returns
returns c =
    let list = triples_seen c.args.graph.now in
    let shapes = shape_in c.args.shapes.now in
    let flat = value_flat list shapes in
    c.value_of.ensures (jsonld list shapes) (value_plain list shapes) (omega (arith, flat)) (λ log w. w c.requires.writable [] refl)
