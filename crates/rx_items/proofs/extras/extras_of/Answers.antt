use Rattle.rx_items.proofs.Common.{length, rows_of}
use Rattle.rx_items.proofs.BuildLemmas.{fit_turn, fit_end}
use Rattle.rx_items.proofs.extras.extras_of.Goals as goal

pub loop-place-preserved : goal.loop-place-preserved
loop-place-preserved c text times tree sorted up looks =
    let l = c.loop-place in
    fit_turn c.args.words.now (rows_of tree) c.args.members.now c.args.rows.now l.place l.extras.items c.add_extra.new.extras.items c.in_ok-extra.extra
    (l.invariant text times tree sorted up looks) (c.in_ok-extra.ensures text times tree sorted up looks) c.in_ok-add_extra.ensures

pub returns : goal.returns
returns c text times tree sorted up looks =
    let l = c.loop-place in
    fit_end c.args.words.now (rows_of tree) c.args.members.now c.args.rows.now l.place (length c.args.rows.now) l.extras.items l.auto.place-end c.loop-place-test.false (l.invariant text times tree sorted up looks)
