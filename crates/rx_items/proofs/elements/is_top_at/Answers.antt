use Rattle.rx_items.proofs.Common.{ap, sym, is_top_level, is_there}
use Rattle.rx_items.proofs.HoldLemmas.{behind_rows, row_there, told_there}
use Rattle.rx_items.proofs.elements.is_top_at.Goals as goal

pub returns-in-Some : goal.returns-in-Some
returns-in-Some c rows base holds =
    let row = rw c.deref.ensures.value at c.in-Some.ensures.lookup.3 in
    let at = row_there c.args.kept.now rows base c.args.place c.in-Some.row.now holds row.0 (row.1 c.in-Some.row.now) in
    told_there is_top_level rows c.args.place at.0 c.is_top.result at.1 (c.is_top.ensures c.args.kept.now.words c.args.kept.now.text c.args.kept.now.times.items at.0 at.2)

pub returns-in-None : goal.returns-in-None
returns-in-None c rows base holds =
    sym (ap (is_there is_top_level) (behind_rows c.args.kept.now rows base c.args.place holds (rw c.deref.ensures.value at c.in-None.ensures.lookup.3)))
