use Rattle.std.proofs.Common.{◌<◌, length, arith}
use Rattle.rx_tags.proofs.ListLemmas.{row_added, space_added}
use Rattle.rx_tags.proofs.lists.list_rows.Goals as goal

pub returns-then-bytes-end-eq62-clause-lists : goal.returns-then-bytes-end-eq62-clause-lists
returns-then-bytes-end-eq62-clause-lists c =
    λ some. row_added c.args.bytes.now c.loop-at.at c.loop-at.rows.items c.add_row-end.new.rows.items c.add_row-end.result c.loop-at.invariant.within c.loop-at.invariant.marks (c.add_row-end.ensures.adds some)

pub loop-at-preserved : goal.loop-at-preserved
loop-at-preserved c =
    let end = c.add_row-end.result in
    let within : end < length c.args.bytes.now = omega (arith, c.add_row-end.ensures.fits, c.if-end-bytes.false) in
    let some : 0 < end = omega (arith, c.if-end-eq0.false) in
    record {
      within = omega arith;
      marks = space_added c.args.bytes.now end c.add_row-end.new.rows.items
          (row_added c.args.bytes.now c.loop-at.at c.loop-at.rows.items c.add_row-end.new.rows.items end c.loop-at.invariant.within c.loop-at.invariant.marks (c.add_row-end.ensures.adds some)) within c.if-bytes-end-ne32.false;
    }
