use Rattle.rx_jsonld.proofs.Common.{◌∙◌, ℕ, List, ap, map, on_ok_weaker, triples_seen, data_events, told_as, item_value, list_value}
use Rattle.rx_terms.specs.declared.triples.Blank.{Blank}
use Rattle.rx_jsonld.proofs.said.write_chain.Goals as goal

pub returns : goal.returns
returns g c =
    let list = triples_seen c.args.graph.now in
    let cells = ap (λ (bs : List Blank). map (λ b. b.0) bs) c.deref.ensures.value ∙ c.in-Ok.ensures in
    on_ok_weaker c.write_list-written.result (λ wrote. told_as _ _ (ap (λ (ns : List ℕ). data_events (list_value (map (item_value list) ns))) cells) wrote) c.write_list-written.ensures
