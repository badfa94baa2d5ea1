use Rattle.rx_eval.proofs.Common.{◌∙◌, ap, ap₂, length, map, option_map, is_some, is_none, node_seen, term_seen, facts_seen, waiting_seen, found_seen, standing_at, naming_by, owners_seen, put_entries, entries_in}
use Rattle.rx_lists.specs.declared.lists.Owner.{Owner}
use Rattle.rx_eval.specs.Elements.{handed_by, owner_in}
use Rattle.rx_eval.proofs.EnterLemmas.{Begins, handed_is, owners_are, own_is, own_seen, below_seen, gathers_places}
use Rattle.rx_eval.proofs.elements.enter_found.Goals as goal
use Rattle.rx_eval.proofs.elements.enter_found.Goals.{In_ok-below}

begins : (c : In_ok-below) → Begins c.args.place.now (facts_seen c.args.facts.now) c.args.found.now c.in_ok-object.object c.in_ok-own.own c.in_ok-below.below c.args.lists.now c.begin.new.lists
begins c = record { its_object = c.in_ok-object.ensures; its_own = c.in_ok-own.ensures.owner; its_lists = c.in_ok-own.ensures.lists; its_below = c.in_ok-below.ensures.owner }

pub returns-clause-context : goal.returns-clause-context
returns-clause-context c =
    c.in_ok-context.ensures
    ∙ ap₂ (λ (x y : Owner). handed_by (facts_seen c.args.facts.now) (found_seen c.args.found.now) (option_map node_seen c.in_ok-object.object) x.0 y.0) c.owner_or-owner.ensures
    (c.owner_or.ensures ∙ ap (owner_in c.in_ok-below.below) c.owner_or-owner.ensures)
    ∙ handed_is _ _ _ _ _ _ _ _ (begins (goal.at.returns-clause-context c).In_ok-below) c.requires

pub returns-clause-lists : goal.returns-clause-lists
returns-clause-lists c =
    let b = begins (goal.at.returns-clause-lists c).In_ok-below in
    let own = ap (λ (o : Owner). o.0) c.owner_or-owner.ensures ∙ own_is _ _ _ _ _ _ _ _ b in
    let owners = owners_are _ _ _ _ _ _ _ _ b c.begin_below.new.lists c.in_ok-below.ensures.lists in
    c.in_ok-slots.ensures.lists
    ∙ (λ i. put_entries (entries_in (own i) (facts_seen c.args.facts.now) (found_seen c.args.found.now) (option_map term_seen c.args.value.now) (map waiting_seen (c.as_slice-waiting.ensures i))) (owners i))

pub returns-clause-own : goal.returns-clause-own
returns-clause-own c = own_seen _ _ _ _ _ _ _ _ (begins (goal.at.returns-clause-own c).In_ok-below)

pub returns-clause-below : goal.returns-clause-below
returns-clause-below c = below_seen _ _ _ _ _ _ _ _ (begins (goal.at.returns-clause-below c).In_ok-below)

pub returns-clause-text : goal.returns-clause-text
returns-clause-text c =
    let b = begins (goal.at.returns-clause-text c).In_ok-below in
    let at = standing_at c.args.place.now (facts_seen c.args.facts.now) in
    let here = found_seen c.args.found.now in
    gathers_places (naming_by c.args.place.now.labels.now c.args.place.now.fresh at here (length c.args.lists.now)) at here c.owner_or-owner.result.0 c.args.mark (is_some c.args.facts.now.property)
    (is_none c.args.value.now) c.in_ok-slots.slots.items (owners_seen c.begin_below.new.lists) _ c.in_ok-gathered.gathered
    (ap (λ (o : Owner). o.0) c.owner_or-owner.ensures ∙ own_is _ _ _ _ _ _ _ _ b) (owners_are _ _ _ _ _ _ _ _ b c.begin_below.new.lists c.in_ok-below.ensures.lists)
    c.in_ok-gathered.ensures.some c.in_ok-slots.ensures.slots c.in_ok-gathered.ensures.what
