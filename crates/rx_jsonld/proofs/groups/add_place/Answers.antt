use Rattle.rx_jsonld.proofs.Common.{◌∙◌, on_ok_weaker, triple_seen, triples_seen, grouped}
use Rattle.rx_shapes.proofs.IndexLemmas.{seen_at}
use Rattle.rx_jsonld.proofs.GroupLemmas.{found_under}
use Rattle.rx_jsonld.proofs.groups.add_place.Goals as goal

pub returns : goal.returns
returns c shapes =
    let list = triples_seen c.args.graph.now in
    on_ok_weaker c.put_place.result
    (λ put. put ∙ found_under list shapes c.args.place (triple_seen c.at.result.now) c.key_of.result.now (grouped list shapes c.args.groups.now.entries)
    (seen_at c.args.graph.now c.args.place c.at.result.now c.at.ensures) c.key_of.ensures)
    (c.put_place.ensures list shapes)
