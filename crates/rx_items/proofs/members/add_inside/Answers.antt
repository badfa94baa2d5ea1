use Rattle.rx_items.proofs.Common.{get_or, slice_get-get_or, on_ok_weaker, nothing_kept}
use Rattle.rx_items.proofs.WalkLemmas.{item_none, item_some}
use Rattle.rx_items.proofs.members.add_inside.Goals as goal

pub returns-then-not-row : goal.returns-then-not-row
returns-then-not-row c =
    let rows = c.args.rows.now in
    let place = c.args.place in
    item_none rows place (get_or rows place nothing_kept) c.args.members.now.items (slice_get-get_or rows place nothing_kept c.requires) c.if-not-row.true

pub returns : goal.returns
returns c =
    let rows = c.args.rows.now in
    let place = c.args.place in
    on_ok_weaker c.add_members.result
    (λ adds. item_some rows place (get_or rows place nothing_kept) c.args.members.now.items c.add_members.new.members.items (slice_get-get_or rows place nothing_kept c.requires) adds) c.add_members.ensures
