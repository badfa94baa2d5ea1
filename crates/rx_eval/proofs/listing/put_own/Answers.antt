use Rattle.rx_eval.proofs.Common.{IfOk-weaker, on_ok_weaker, ◌∙◌, ap, Some, option_map, Bool, is_none, node_seen, term_seen, listed, hangs, facts_seen, found_seen, owners_seen, put_entries, linked_entries, touched_entries, entries_for}
use Rattle.rx_eval.proofs.SeenLemmas.{three_put, places_then}
use Rattle.rx_eval.proofs.listing.put_own.Goals as goal

pub returns-clause-lists : goal.returns-clause-lists
returns-clause-lists c =
    on_ok_weaker c.put_valued.result
    (λ h.
    three_put (linked_entries c.args.owner.0 c.args.facts.now.rel (option_map node_seen c.args.found.now.object))
    (touched_entries c.args.owner.0 c.args.facts.now.rel (hangs (facts_seen c.args.facts.now) (found_seen c.args.found.now)))
    (entries_for c.args.owner.0 (Some (option_map term_seen c.args.value.now)) c.args.facts.now.property)
    (owners_seen c.args.lists.now) (owners_seen c.put_linked.new.lists) (owners_seen c.put_touched.new.lists) (owners_seen c.put_valued.new.lists) c.in_ok-put_linked.ensures
    (c.in_ok-put_touched.ensures ∙ ap (λ (b : Bool). put_entries (touched_entries c.args.owner.0 c.args.facts.now.rel b) (owners_seen c.put_linked.new.lists)) c.hangs.ensures) h)
    c.put_valued.ensures.lists

pub returns-clause-slots : goal.returns-clause-slots
returns-clause-slots c =
    IfOk-weaker c.put_valued.result _ _
    (λ slots h.
    places_then (is_none c.args.value.now) c.args.owner.0 (linked_entries c.args.owner.0 c.args.facts.now.rel (option_map node_seen c.args.found.now.object))
    (touched_entries c.args.owner.0 c.args.facts.now.rel (hangs (facts_seen c.args.facts.now) (found_seen c.args.found.now))) (listed c.args.facts.now.property) slots.items
    (owners_seen c.args.lists.now) (owners_seen c.put_linked.new.lists) (owners_seen c.put_touched.new.lists) c.in_ok-put_linked.ensures
    (c.in_ok-put_touched.ensures ∙ ap (λ (b : Bool). put_entries (touched_entries c.args.owner.0 c.args.facts.now.rel b) (owners_seen c.put_linked.new.lists)) c.hangs.ensures) h)
    c.put_valued.ensures.slots
