use Rattle.std.proofs.Common.{◌∙◌, ◌<◌, ◌≤◌, ℕ, List, length, ap, subst}
use Rattle.rx_items.specs.declared.rows.Row.{Row}
use Rattle.rx_items.proofs.PageLemmas.{as_long, row_there}
use Rattle.rx_items.proofs.WritingLemmas.{tops_on, tops_told}
use Rattle.rx_items.proofs.writing.write_tops.Goals as goal

pub loop-place-preserved : goal.loop-place-preserved
loop-place-preserved g c rows base holds =
    let l = c.loop-place in
    let lt = subst (λ (n : ℕ). l.place < n) (ap (λ (l : List Row). length l) c.as_slice-place-end.ensures.value ∙ as_long c.args.kept.now rows base holds) c.loop-place-test.true in
    let r = row_there rows l.place lt in
    tops_on rows base l.place r.row lt r.is (l.invariant rows base holds) (c.in_ok-write_top.ensures rows base r.row holds r.row_is)

pub returns : goal.returns
returns g c rows base holds =
    let l = c.loop-place in
    let over = subst (λ (n : ℕ). n ≤ l.place) (ap (λ (l : List Row). length l) c.as_slice-place-end.ensures.value ∙ as_long c.args.kept.now rows base holds) c.loop-place-test.false in
    tops_told rows base l.place over (l.invariant rows base holds)
