use Rattle.rx_items.proofs.Common.{◌∙◌, ◌<◌, ◌≤◌, ℕ, List, length, ap, subst, VisitsGive, top_visits}
use Rattle.rx_items.specs.declared.rows.Row.{Row}
use Rattle.rx_items.proofs.VisitLemmas.{err_told}
use Rattle.rx_items.proofs.FoundLemmas.{one_none}
use Rattle.rx_items.proofs.PageLemmas.{as_long, row_there, tops_err, visited_end}
use Rattle.rx_items.proofs.faults.visit_all.Goals as goal

pub returns-in_err-pass_top : goal.returns-in_err-pass_top
returns-in_err-pass_top c rows base holds =
    let l = c.loop-place in
    let lt = subst (λ (n : ℕ). l.place < n) (ap (λ (l : List Row). length l) c.as_slice-place-end.ensures.value ∙ as_long c.args.kept.now rows base holds) c.loop-place-test.true in
    let r = row_there rows l.place lt in
    err_told (λ r. VisitsGive rows r) c.from_residual.result c.in_err-pass_top.field-0.0 c.from_residual.ensures.1
    (tops_err rows base l.place l.trail.visits r.row c.in_err-pass_top.field-0.0 lt r.is (l.invariant.did rows base holds) (c.in_err-pass_top.ensures.finds rows base r.row holds l.invariant.path r.row_is))

pub loop-place-preserved : goal.loop-place-preserved
loop-place-preserved c =
    let l = c.loop-place in
    record {
      path = c.in_ok-pass_top.ensures.path ∙ l.invariant.path;
      did = λ rows base holds.
          let lt = subst (λ (n : ℕ). l.place < n) (ap (λ (l : List Row). length l) c.as_slice-place-end.ensures.value ∙ as_long c.args.kept.now rows base holds) c.loop-place-test.true in
          let r = row_there rows l.place lt in
          let done = c.in_ok-pass_top.ensures.finds rows base r.row holds l.invariant.path r.row_is in
          one_none (top_visits rows base) rows l.place r.row lt r.is 0 l.trail.visits c.pass_top.new.trail.visits (l.invariant.did rows base holds) done.0;
    }

pub returns : goal.returns
returns c rows base holds =
    let l = c.loop-place in
    let over = subst (λ (n : ℕ). n ≤ l.place) (ap (λ (l : List Row). length l) c.as_slice-place-end.ensures.value ∙ as_long c.args.kept.now rows base holds) c.loop-place-test.false in
    visited_end rows base l.place l.trail.visits over (l.invariant.did rows base holds)
