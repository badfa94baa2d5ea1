use Rattle.std.proofs.Common.{◌∙◌, refl, Some, None}
use Rattle.rx_lists.proofs.RowLemmas.{slot_old, list_old, place_old, list_new, place_new, touched_new}
use Rattle.rx_lists.proofs.owner_lists.OwnerLists.slot.Goals as goal

pub returns-in_ok-grow-in-Some-clause-ok : goal.returns-in_ok-grow-in-Some-clause-ok
returns-in_ok-grow-in-Some-clause-ok c = slot_old c.args.self.now _ c.args.predicate.now c.in-Some.list c.in-Some.ensures c.in_ok-grow-in-Some.ensures.ok

pub returns-in_ok-grow-in-Some-clause-list : goal.returns-in_ok-grow-in-Some-clause-list
returns-in_ok-grow-in-Some-clause-list c = list_old c.args.self.now c.args.predicate.now c.in-Some.list c.in-Some.ensures

pub returns-in_ok-grow-in-Some-clause-place : goal.returns-in_ok-grow-in-Some-clause-place
returns-in_ok-grow-in-Some-clause-place c = place_old c.args.self.now c.args.predicate.now c.in-Some.list _ c.in-Some.ensures c.row-place.ensures

pub returns-in_ok-add-in-None-clause-ok : goal.returns-in_ok-add-in-None-clause-ok
returns-in_ok-add-in-None-clause-ok c = touched_new c.args.self.now _ c.args.predicate.now _ (Some None) refl c.in-None.ensures c.in_ok-add-in-None.ensures.ok

pub returns-in_ok-add-in-None-clause-list : goal.returns-in_ok-add-in-None-clause-list
returns-in_ok-add-in-None-clause-list c = c.len-list.ensures ∙ list_new c.args.self.now c.args.predicate.now c.in-None.ensures

pub returns-in_ok-add-in-None-clause-place : goal.returns-in_ok-add-in-None-clause-place
returns-in_ok-add-in-None-clause-place c = place_new c.args.self.now c.args.predicate.now c.in-None.ensures
