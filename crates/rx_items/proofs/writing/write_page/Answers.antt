use Rattle.rx_items.proofs.Common.{filter, map, on_ok_weaker, is_top_level, json_of_item, properties_in}
use Rattle.rx_items.proofs.WritingLemmas.{page_made}
use Rattle.rx_items.proofs.writing.write_page.Goals as goal

pub returns : goal.returns
returns g c rows base holds =
    on_ok_weaker c.end_map.result
    (λ ended. page_made _ _ _ (map (json_of_item (properties_in rows) base 40) (filter is_top_level rows)) c.in_ok-begin_map.ensures c.in_ok-key.ensures c.in_ok-begin_seq.ensures (c.in_ok-write_tops.ensures rows base holds)
    c.in_ok-end_seq.ensures ended)
    c.end_map.ensures
