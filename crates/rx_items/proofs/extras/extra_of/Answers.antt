use Rattle.rx_items.proofs.Common.{◌∙◌, get_or, slice_get-get_or, nothing_kept, rows_of}
use Rattle.rx_items.specs.declared.kept.BesideRow.TheVariants as extra
use Rattle.rx_items.proofs.BuildLemmas.{fits_by, reaches_alone, refers_not}
use Rattle.rx_items.proofs.IdLemmas.{row_shown}
use Rattle.rx_items.proofs.extras.extra_of.Goals as goal

pub returns-then-is_plain : goal.returns-then-is_plain
returns-then-is_plain c text times tree sorted up looks =
    let members = c.args.members.now in
    let ps = rows_of tree in
    let words = c.args.words.now in
    let rows = c.args.rows.now in
    let r = row_shown words text times rows ps c.args.place nothing_kept sorted.shows c.requires in
    let plain = c.is_plain.ensures in
    let is = c.if-is_plain.true in
    let own = c.plain_run-own in
    fits_by words text times ps members rows c.args.place (get_or rows c.args.place nothing_kept) r.0 (extra.Plain own.result) (slice_get-get_or rows c.args.place nothing_kept c.requires) r.1 r.2
    (plain.names is r.2.itemprop r.2.has_names) (plain.types is r.2.itemtype r.2.has_types)
    (λ item. reaches_alone words text times rows tree members sorted c.args.place own.result r.0 r.1
    (r.2.references ∙ refers_not words _ r.2.itemref (plain.references is) r.2.has_references) (own.ensures (r.2.is_item ∙ item) up))
