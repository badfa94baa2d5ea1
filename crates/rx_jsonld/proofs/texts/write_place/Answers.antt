use Rattle.rx_jsonld.proofs.Common.{Option, ap, sym, ℕ, on_ok_weaker, triples_seen, Triple, shape_in, data_events, told_as, value_if}
use Rattle.rx_shapes.proofs.IndexLemmas.{seen_at}
use Rattle.rx_jsonld.proofs.texts.write_place.Goals as goal

pub returns : goal.returns
returns g c =
    let list = triples_seen c.args.graph.now in
    let shapes = shape_in c.args.shapes.now in
    on_ok_weaker c.write_said.result
    (λ wrote. told_as _ _ (ap (λ (o : Option (Triple ℕ)). data_events (value_if list shapes o)) (sym (seen_at c.args.graph.now c.args.place c.at.result.now c.at.ensures))) wrote) c.write_said.ensures
