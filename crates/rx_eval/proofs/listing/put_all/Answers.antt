use Rattle.rx_eval.proofs.Common.{filter_map, map, option_map, [], if◌then◌else◌, node_seen, term_seen, facts_seen, found_seen, waiting_seen, owners_seen, own_entries, awaited_entry}
use Rattle.rx_eval.proofs.SeenLemmas.{two_put}
use Rattle.rx_eval.proofs.listing.put_all.Goals as goal

pub returns-clause-lists : goal.returns-clause-lists
returns-clause-lists c =
    two_put
    (if c.args.facts.now.inlist then own_entries c.args.owner.0 (facts_seen c.args.facts.now) (found_seen c.args.found.now) (option_map term_seen c.args.value.now) else [])
    (filter_map (awaited_entry (node_seen c.args.found.now.subject)) (map waiting_seen c.args.waiting.now)) (owners_seen c.args.lists.now) (owners_seen c.put_listed.new.lists)
    (owners_seen c.put_awaited.new.lists) c.in_ok-slots.ensures.lists c.in_ok-put_awaited.ensures
