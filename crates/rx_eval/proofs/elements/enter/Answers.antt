use Rattle.rx_eval.proofs.Common.{◌∙◌, ap, refl, sym, length, option_map, is_some, length-map, IfOk-weaker, on_ok_weaker, term_seen, facts_seen, context_seen, found_seen, naming, naming_by, standing_at, owning_seen, owners_seen, owner_seen, resources, rule, value_now, put_entries, owners_begun, Entries, ◌≡◌, Bool, true, false, Some, if◌then◌else◌, entries_by}
use Rattle.rx_eval.proofs.EnterLemmas.{below_as, entries_entered, gathers_entered, on_always}
use Rattle.rx_eval.proofs.elements.enter.Goals as goal

pub returns-then-started-clause-context : goal.returns-then-started-clause-context
returns-then-started-clause-context c =
    let place = c.args.place.now in
    let at = standing_at place (facts_seen c.args.facts.now) in
    rw (below_as place.labels.now place.fresh place.base.now at (resources (naming place) place.base.now at) (length c.args.lists.now), sym c.in_ok-started.ensures.found, c.if-started.true)
    (IfOk-weaker c.skipped.result _ _ (λ frame e. ap context_seen e) c.skipped.ensures.context)

pub returns-then-started-clause-lists : goal.returns-then-started-clause-lists
returns-then-started-clause-lists c = rw (sym c.in_ok-started.ensures.found, c.if-started.true) (on_always c.skipped.result refl)

pub returns-then-started-clause-gathers : goal.returns-then-started-clause-gathers
returns-then-started-clause-gathers c = rw (sym c.in_ok-started.ensures.found, c.if-started.true) (IfOk-weaker c.skipped.result _ _ (λ frame e. ap is_some e.2) c.skipped.ensures.nothing)

pub returns-then-started-clause-own : goal.returns-then-started-clause-own
returns-then-started-clause-own c =
    rw (sym c.in_ok-started.ensures.found, c.if-started.true) (IfOk-weaker c.skipped.result _ _ (λ frame e. ap (option_map owner_seen) e.0) c.skipped.ensures.nothing)

pub returns-then-started-clause-below : goal.returns-then-started-clause-below
returns-then-started-clause-below c =
    rw (sym c.in_ok-started.ensures.found, c.if-started.true) (IfOk-weaker c.skipped.result _ _ (λ frame e. ap (option_map owner_seen) e.1) c.skipped.ensures.nothing)

pub returns-clause-context : goal.returns-clause-context
returns-clause-context c =
    let place = c.args.place.now in
    let at = standing_at place (facts_seen c.args.facts.now) in
    rw (below_as place.labels.now place.fresh place.base.now at (resources (naming place) place.base.now at) (length c.args.lists.now), sym c.in_ok-started.ensures.found) c.enter_found.ensures.context

unless : {A : Type 0} (b : Bool) (x y : A) → b ≡ false → y ≡ (if b then x else y)
unless false x y e = refl
unless true x y e = absurd (cc)

pub returns-clause-lists : goal.returns-clause-lists
returns-clause-lists c =
    let place = c.args.place.now in
    let at = standing_at place (facts_seen c.args.facts.now) in
    let here = found_seen c.in_ok-started.started.found in
    let value = value_now (rule (naming place) place.base.now at.facts here) at.facts in
    let names = naming_by place.labels.now place.fresh at here (length c.args.lists.now) in
    let begun = owners_begun (naming place) at here (owners_seen c.args.lists.now) in
    rw (sym c.in_ok-started.ensures.found, length-map c.args.lists.now (option_map owning_seen))
    (on_ok_weaker c.enter_found.result
    (λ e. e ∙ ap (λ (x : Entries). put_entries x begun) (entries_entered names at here (option_map term_seen c.in_ok-started.started.value) value c.if-started.false c.in_ok-started.ensures.value)
    ∙ unless here.skipped (owners_seen c.args.lists.now) (put_entries (entries_by names Some value at here) begun) c.if-started.false)
    c.enter_found.ensures.lists)

pub returns-clause-gathers : goal.returns-clause-gathers
returns-clause-gathers c =
    let place = c.args.place.now in
    let facts = facts_seen c.args.facts.now in
    let value = value_now (rule (naming place) place.base.now facts (found_seen c.in_ok-started.started.found)) facts in
    rw (sym c.in_ok-started.ensures.found, c.if-started.false)
    (IfOk-weaker c.enter_found.result _ _ (λ frame e. e ∙ gathers_entered (is_some facts.property) c.in_ok-started.started.value value c.in_ok-started.ensures.value) c.enter_found.ensures.gathers)

pub returns-clause-text : goal.returns-clause-text
returns-clause-text c = rw (sym c.in_ok-started.ensures.found, length-map c.args.lists.now (option_map owning_seen)) c.enter_found.ensures.text

pub returns-clause-own : goal.returns-clause-own
returns-clause-own c = rw (sym c.in_ok-started.ensures.found, c.if-started.false) c.enter_found.ensures.own

pub returns-clause-below : goal.returns-clause-below
returns-clause-below c = rw (sym c.in_ok-started.ensures.found, c.if-started.false) c.enter_found.ensures.below
