use Rattle.rx_terms.proofs.Common.{◌∙◌, ap, sym, Some, slice_get-get_or}
use Rattle.rx_items.proofs.HoldLemmas.{behind_rows, element_there}
use Rattle.rx_items.proofs.elements.element_at.Goals as goal

pub returns-in_default : goal.returns-in_default
returns-in_default c rows base holds = behind_rows c.args.kept.now rows base c.args.place holds (rw c.deref.ensures.value at c.in_default.ensures.lookup.3)

pub returns : goal.returns
returns c rows base holds =
    let row = rw c.deref.ensures.value at c.in-Some.ensures.lookup.3 in
    let extra = rw c.deref-2.ensures.value at c.in-Some-get.ensures.lookup.3 in
    element_there c.args.kept.now rows base c.args.place c.in-Some.row.now c.in-Some-get.extra.now c.element_of.result holds row.0
    (slice_get-get_or c.args.kept.now.rows.items c.args.place c.in-Some.row.now row.0 ∙ ap Some (sym (row.1 c.in-Some.row.now)))
    (slice_get-get_or c.args.kept.now.extras.items c.args.place c.in-Some-get.extra.now extra.0 ∙ ap Some (sym (extra.1 c.in-Some-get.extra.now)))
    (λ p shows names types. c.element_of.ensures.shown c.args.kept.now.words c.args.kept.now.text c.args.kept.now.times.items p shows names types)
    c.element_of.ensures.own c.element_of.ensures.others
