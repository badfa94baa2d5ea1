use Rattle.rx_items.proofs.Common.{◌<◌, length, get_or, arith, slice_get-get_or, slice_get_within, nothing_kept}
use Rattle.rx_items.proofs.WalkLemmas.{adds_turn, adds_all}
use Rattle.rx_items.proofs.members.add_members.Goals as goal

pub loop-place-preserved : goal.loop-place-preserved
loop-place-preserved c =
    let l = c.loop-place in
    let rows = c.args.rows.now in
    let low = l.invariant.low in
    let short : l.place < length rows = omega (arith, c.min-end.ensures, c.loop-place-test.true) in
    record {
      low = omega (arith, low, c.next_place-place.ensures.behind);
      bound = c.next_place-place.ensures.bound;
      adds = rw c.next_place-place.ensures.exact
          (adds_turn rows c.args.scope c.args.from l.place c.args.members.now.items l.members.items c.add_member.new.members.items (get_or rows l.place nothing_kept) (slice_get-get_or rows l.place nothing_kept short) low c.in_ok-add_member.ensures
          l.invariant.adds);
    }

pub returns : goal.returns
returns c =
    let l = c.loop-place in
    adds_all c.args.rows.now c.args.scope c.args.from c.args.to l.place c.args.members.now.items l.members.items
    (λ x row lt is. let short = slice_get_within c.args.rows.now x row is in let end = c.min-end.ensures in let past = c.loop-place-test.false in omega (arith, end, past, lt, short)) l.invariant.bound l.invariant.adds
