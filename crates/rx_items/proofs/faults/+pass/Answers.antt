use Rattle.rx_items.proofs.Common.{◌∙◌, ℕ, suc, ◌∷◌, ap, sym, subst, arith, visits_from, is_item, names_of, properties_in, is_there, HasFault, NoFault, Placed, steps_of, steps_in, visits_in, again}
use Rattle.rx_items.proofs.HoldLemmas.{is_element, list_is, all_stand, place_is}
use Rattle.rx_items.proofs.VisitLemmas.{at_path, no_element, row_at, list_end, told, enter_err, enter_ok, group_err, group_ok}
use Rattle.rx_items.proofs.FoundLemmas.{one_none}
use Rattle.rx_items.proofs.PassLemmas.{times_err, times_on, times_end, counted, item_passed, plain_passed, each_stop, each_end}
use Rattle.rx_items.proofs.faults.+pass.Goals as goal

pub pass-returns-in_err-enter-clause-finds : goal.pass-returns-in_err-enter-clause-finds
pass-returns-in_err-enter-clause-finds t c rows base above left root at row found item =
    let shown = found.shown in
    told c.args.trail.now.visits c.enter.new.trail.visits (visits_from (properties_in rows) (suc left) above root) _ c.from_residual.result c.in_err-enter.field-0.0 c.from_residual.ensures.1
    (enter_err above root c.args.place left (properties_in rows) c.args.trail.now c.enter.new.trail c.args.element.now c.in_err-enter.field-0.0 at.path_is (place_is rows c.args.place root at.holds.numbered row) shown.token shown.at c.in_err-enter.ensures)

pub pass-returns-in_err-pass_item-clause-finds : goal.pass-returns-in_err-pass_item-clause-finds
pass-returns-in_err-pass_item-clause-finds t c rows base above left root at row found item =
    let entered = enter_ok c.args.kept.now rows base above left root c.args.place c.args.trail.now c.enter.new.trail c.args.element.now at row c.in_ok-enter.ensures in
    let inner = c.in_err-pass_item.ensures.finds rows base (root ∷ above) entered.room root entered.at row found item in
    told c.args.trail.now.visits c.pass_item.new.trail.visits (visits_from (properties_in rows) (suc left) above root) _ c.from_residual-in_err-pass_item.result c.in_err-pass_item.field-0.0 c.from_residual-in_err-pass_item.ensures.1
    (subst (λ (n : ℕ). HasFault c.args.trail.now.visits (visits_from (properties_in rows) (suc n) above root) c.in_err-pass_item.field-0.0) (sym entered.left_is)
    (group_err rows base above root entered.room c.args.trail.now.visits c.enter.new.trail.visits c.in_err-pass_item.field-0.0 entered.no_fault c.in_ok-enter.ensures.2 inner))

pub pass-returns-clause-finds : goal.pass-returns-clause-finds
pass-returns-clause-finds t c rows base above left root at row found item =
    let entered = enter_ok c.args.kept.now rows base above left root c.args.place c.args.trail.now c.enter.new.trail c.args.element.now at row c.in_ok-enter.ensures in
    let inner = c.in_ok-pass_item.ensures.finds rows base (root ∷ above) entered.room root entered.at row found item in
    let calm = subst (λ (n : ℕ). NoFault c.enter.new.trail.visits (visits_in rows base (root ∷ above) entered.room (steps_in (properties_in rows root))) n) (sym c.leave.ensures.visits) inner.0 in
    let all = group_ok rows base above root entered.room c.args.trail.now.visits c.enter.new.trail.visits c.leave.new.trail.visits entered.no_fault c.in_ok-enter.ensures.2 calm in
    (subst (λ (n : ℕ). NoFault c.args.trail.now.visits (visits_from (properties_in rows) (suc n) above root) c.leave.new.trail.visits) (sym entered.left_is) all, tt)

pub pass_item-returns-in-Some-clause-finds : goal.pass_item-returns-in-Some-clause-finds
pass_item-returns-in-Some-clause-finds t c rows base above left root at row found item =
    let list = list_is c.args.kept.now rows base root c.args.element.now c.args.place c.in-Some.list.now c.as_slice.result.now at.holds found item c.in-Some.ensures.rise c.as_slice.ensures.value c.in-Some.ensures.same in
    c.pass_each.ensures.finds rows base above left (properties_in rows root) at list (all_stand _ rows at.holds.numbered)

pub pass_sorted-returns-clause-finds : goal.pass_sorted-returns-clause-finds
pass_sorted-returns-clause-finds t c rows base above left root at row found item =
    let list = list_is c.args.kept.now rows base root c.args.element.now c.args.place c.in_ok-list.list.items c.as_slice.result.now at.holds found item c.in_ok-list.ensures.rise c.as_slice.ensures.value c.in_ok-list.ensures.same in
    c.pass_each.ensures.finds rows base above left (properties_in rows root) at (c.as_slice-2.ensures.value ∙ list) (all_stand _ rows at.holds.numbered)

pub pass_each-returns-in_err-pass_property-clause-finds : goal.pass_each-returns-in_err-pass_property-clause-finds
pass_each-returns-in_err-pass_property-clause-finds t c rows base above left es at is stand =
    let l = c.loop-place in
    let r = row_at rows es c.args.list.now l.place-index is stand c.loop-place-test.true in
    told c.args.trail.now.visits c.pass_property.new.trail.visits (visits_in rows base above left (steps_in es)) _ c.from_residual.result c.in_err-pass_property.field-0.0 c.from_residual.ensures.1
    (each_stop rows base above left c.args.trail.now.visits l.trail.visits es l.place-index r.row c.in_err-pass_property.field-0.0 r.within r.is (l.invariant.did rows base above left es at is stand)
    (c.in_err-pass_property.ensures.finds rows base above left r.row (at_path l.trail.path.items l.invariant.path at) r.row_is))

pub pass_each-loop-place-preserved : goal.pass_each-loop-place-preserved
pass_each-loop-place-preserved t c =
    let l = c.loop-place in
    record {
      path = c.in_ok-pass_property.ensures.path ∙ l.invariant.path;
      did = λ rows base above left es at is stand.
          let r = row_at rows es c.args.list.now l.place-index is stand c.loop-place-test.true in
          let passed = c.in_ok-pass_property.ensures.finds rows base above left r.row (at_path l.trail.path.items l.invariant.path at) r.row_is in
          one_none (λ (e : Placed). visits_in rows base above left (steps_of e)) es l.place-index r.row r.within r.is c.args.trail.now.visits l.trail.visits c.pass_property.new.trail.visits (l.invariant.did rows base above left es at is stand) passed.0;
    }

pub pass_each-returns-clause-finds : goal.pass_each-returns-clause-finds
pass_each-returns-clause-finds t c rows base above left es at is stand =
    let l = c.loop-place in
    (each_end rows base above left c.args.trail.now.visits l.trail.visits es l.place-index (list_end c.args.list.now es l.place-index is c.loop-place-test.false) (l.invariant.did rows base above left es at is stand), tt)

pub pass_property-returns-in_default-clause-finds : goal.pass_property-returns-in_default-clause-finds
pass_property-returns-in_default-clause-finds t c rows base above left e at row = absurd (no_element rows c.args.place e row (c.in_default.ensures rows base at.holds))

pub pass_property-returns-then-not-is_item_at-clause-finds : goal.pass_property-returns-then-not-is_item_at-clause-finds
pass_property-returns-then-not-is_item_at-clause-finds t c rows base above left e at row =
    (plain_passed rows base above left e c.args.trail.now.visits (sym (c.is_item_at.ensures rows base at.holds ∙ ap (is_there is_item) row) ∙ c.if-not-is_item_at.true), tt)

pub pass_property-returns-clause-finds : goal.pass_property-returns-clause-finds
pass_property-returns-clause-finds t c rows base above left e at row =
    let found = is_element c.args.kept.now rows c.args.place c.in-Some.element e row (c.in-Some.ensures rows base at.holds) in
    let item = sym (c.is_item_at.ensures rows base at.holds ∙ ap (is_there is_item) row) ∙ c.if-not-is_item_at.false in
    item_passed rows base above left e c.args.trail.now.visits c.pass_times.new.trail.visits c.count.result c.pass_times.result
    (c.count.ensures ∙ counted c.args.kept.now.words c.in-Some.element.names (names_of e) found.shown.names) item (c.pass_times.ensures.finds rows base above left e at row found item)

pub pass_times-returns-in_err-pass-clause-finds : goal.pass_times-returns-in_err-pass-clause-finds
pass_times-returns-in_err-pass-clause-finds t c rows base above left root at row found item =
    let l = c.loop in
    let visits = visits_from (properties_in rows) (suc left) above root in
    told c.args.trail.now.visits c.pass.new.trail.visits (again c.args.times visits) _ c.from_residual.result c.in_err-pass.field-0.0 c.from_residual.ensures.1
    (times_err c.args.trail.now.visits l.trail.visits c.args.times l.counter visits c.in_err-pass.field-0.0 c.loop-test.true (l.invariant.did rows base above left root at row found item)
    (c.in_err-pass.ensures.finds rows base above left root (at_path l.trail.path.items l.invariant.path at) row found item))

pub pass_times-loop-preserved : goal.pass_times-loop-preserved
pass_times-loop-preserved t c =
    let l = c.loop in
    record {
      path = c.in_ok-pass.ensures.path ∙ l.invariant.path;
      within = omega (arith, c.loop-test.true);
      did = λ rows base above left root at row found item.
          let passed = c.in_ok-pass.ensures.finds rows base above left root (at_path l.trail.path.items l.invariant.path at) row found item in
          times_on c.args.trail.now.visits l.trail.visits c.pass.new.trail.visits l.counter (visits_from (properties_in rows) (suc left) above root) (l.invariant.did rows base above left root at row found item) passed.0;
    }

pub pass_times-returns-clause-finds : goal.pass_times-returns-clause-finds
pass_times-returns-clause-finds t c rows base above left root at row found item =
    let l = c.loop in
    (times_end c.args.trail.now.visits l.trail.visits c.args.times l.counter (visits_from (properties_in rows) (suc left) above root) l.invariant.within c.loop-test.false (l.invariant.did rows base above left root at row found item), tt)
