use Rattle.rx_items.proofs.Common.{ap, sym, is_item, is_there}
use Rattle.rx_items.proofs.HoldLemmas.{behind_rows, row_there, told_there}
use Rattle.rx_items.proofs.elements.is_item_at.Goals as goal

pub returns-in-Some : goal.returns-in-Some
returns-in-Some c rows base holds =
    let row = rw c.deref.ensures.value at c.in-Some.ensures.lookup.3 in
    let at = row_there c.args.kept.now rows base c.args.place c.in-Some.row.now holds row.0 (row.1 c.in-Some.row.now) in
    told_there is_item rows c.args.place at.0 c.in-Some.row.now.head.is_item at.1 at.2.is_item

pub returns-in-None : goal.returns-in-None
returns-in-None c rows base holds =
    sym (ap (is_there is_item) (behind_rows c.args.kept.now rows base c.args.place holds (rw c.deref.ensures.value at c.in-None.ensures.lookup.3)))
