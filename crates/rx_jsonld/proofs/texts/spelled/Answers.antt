use Rattle.rx_jsonld.proofs.Common.{[], refl, triples_seen, shape_in, jsonld}
use Rattle.rx_jsonld.proofs.PlainLemmas.{value_plain}
use Rattle.rx_jsonld.proofs.texts.spelled.Goals as goal

pub returns : goal.returns
returns c =
    let list = triples_seen c.args.graph.now in
    let shapes = shape_in c.args.shapes.now in
    c.text_of.ensures (jsonld list shapes) (value_plain list shapes) (λ log w. w c.requires.writable [] refl)
