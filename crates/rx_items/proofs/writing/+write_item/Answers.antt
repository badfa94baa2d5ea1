use Rattle.rx_items.proofs.Common.{◌∙◌, [], ◌∷◌, ap, sym, None, on_ok_weaker, data_events, one, both, told_as, object_made, turn, is_item, json_of_item, properties_in, is_there, name_keys, keys_seen, name_seen, ending_events, events_behind, value_at, grouped_at}
use Rattle.serde.specs.Event as event
use Rattle.rx_items.proofs.HoldLemmas.{all_stand}
use Rattle.rx_items.proofs.NameLemmas.{by_name_told}
use Rattle.rx_items.proofs.WritingLemmas.{item_told, member_turn, member_end, value_none, value_item, data_told}
use Rattle.rx_items.proofs.writing.+write_item.Goals as goal

pub write_item-returns : goal.write_item-returns
write_item-returns g t c rows base root holds row found item =
    let shown = found.shown in
    on_ok_weaker c.end_map.result
    (λ ended. item_told rows base c.args.kept.now.base c.args.left root c.if-left-eq0.false (all_stand _ rows holds.numbered) holds.base_is c.in_ok-begin_map.ensures
    (c.in_ok-write_id.ensures root.facts.item_id shown.item_id) c.in_ok-key.ensures
    (c.in_ok-write_properties.ensures rows base root holds row found item) (c.in_ok-write_types.ensures root.facts.types shown.types) ended)
    c.end_map.ensures

pub write_properties-returns : goal.write_properties-returns
write_properties-returns g t c rows base root holds row found item =
    let keys = name_keys (properties_in rows root) in
    let named = c.in-Ok.ensures rows base root holds row found item in
    on_ok_weaker c.end_map.result
    (λ ended. object_made (events_behind rows base c.args.left None (keys_seen c.in-Ok.list.items)) (grouped_at rows base c.args.left keys)
    (sym (by_name_told rows base c.args.left keys c.in-Ok.list.items named)) c.in_ok-begin_map.ensures (rw c.as_slice.ensures.value at (c.in_ok-write_members.ensures rows base holds)) ended)
    c.end_map.ensures

pub write_named-returns : goal.write_named-returns
write_named-returns g t c rows base holds =
    on_ok_weaker c.write_value.result (λ wrote. both c.in_ok-open_values.ensures wrote) (c.write_value.ensures rows base holds)

pub write_value-returns-then-not-is_item_at : goal.write_value-returns-then-not-is_item_at
write_value-returns-then-not-is_item_at g t c rows base holds =
    c.write_plain_at.ensures rows base c.args.left holds (sym (c.is_item_at.ensures rows base holds) ∙ c.if-not-is_item_at.true)

pub write_value-returns-in_default : goal.write_value-returns-in_default
write_value-returns-in_default g t c rows base holds =
    let none = value_none rows base c.args.left c.args.place (c.in_default.ensures rows base holds) in
    on_ok_weaker c.unit.result (λ wrote. told_as (event.nothing ∷ []) (data_events (value_at rows base c.args.left c.args.place)) none (one _ _ event.nothing wrote)) c.unit.ensures

pub write_value-returns : goal.write_value-returns
write_value-returns g t c rows base holds =
    let at = c.in-Some.ensures rows base holds in
    let item = sym (c.is_item_at.ensures rows base holds ∙ ap (is_there is_item) at.1) ∙ c.if-not-is_item_at.false in
    on_ok_weaker c.write_item.result
    (λ wrote. data_told (json_of_item (properties_in rows) base c.args.left at.0) (value_at rows base c.args.left c.args.place)
    (value_item rows base c.args.left c.args.place at.0 at.1 item) wrote)
    (c.write_item.ensures rows base at.0 holds at.1 at.2 item)

pub write_members-loop-named-preserved : goal.write_members-loop-named-preserved
write_members-loop-named-preserved g t c rows base holds =
    let l = c.loop-named in
    turn (member_turn rows base c.args.left c.args.list.now l.named-index _ (name_seen l.before) c.loop-named-test.true) (l.invariant rows base holds) (c.in_ok-write_named.ensures rows base holds)

pub write_members-returns : goal.write_members-returns
write_members-returns g t c rows base holds =
    let l = c.loop-named in
    on_ok_weaker c.end_values.result
    (λ ended. l.invariant rows base holds _ (told_as (ending_events (name_seen l.before)) _ (member_end rows base c.args.left c.args.list.now l.named-index (name_seen l.before) c.loop-named-test.false) ended))
    c.end_values.ensures
