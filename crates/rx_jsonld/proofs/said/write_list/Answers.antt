use Rattle.rx_jsonld.proofs.Common.{map, on_ok_weaker, triples_seen, item_value}
use Rattle.rx_jsonld.proofs.EventLemmas.{list_made}
use Rattle.rx_jsonld.proofs.said.write_list.Goals as goal

pub returns : goal.returns
returns g c =
    on_ok_weaker c.end_list.result
    (λ ended. list_made (map (item_value (triples_seen c.args.graph.now)) (map (λ b. b.0) c.args.cells.now)) c.in_ok-begin_list.ensures c.in_ok-write_items.ensures ended)
    c.end_list.ensures
