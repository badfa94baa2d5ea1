use Rattle.rx_items.proofs.Common.{sym, subst, ShowsValue}
use Rattle.rx_items.specs.declared.rows.RowValue.{RowValue}
use Rattle.rx_items.proofs.HoldLemmas.{behind_rows, row_there}
use Rattle.rx_items.proofs.elements.value_at.Goals as goal

pub returns-in-Some : goal.returns-in-Some
returns-in-Some c rows base holds =
    let kept = c.args.kept.now in
    let row = rw c.deref.ensures.value at c.in-Some.ensures.lookup.3 in
    let at = row_there kept rows base c.args.place c.in-Some.row.now holds row.0 (row.1 c.in-Some.row.now) in
    (at.0, at.1, subst (λ (v : RowValue). ShowsValue kept.words kept.text kept.times.items v at.0.facts.value) (sym c.value_of.ensures) at.2.value)

pub returns-in-None : goal.returns-in-None
returns-in-None c rows base holds = behind_rows c.args.kept.now rows base c.args.place holds (rw c.deref.ensures.value at c.in-None.ensures.lookup.3)
