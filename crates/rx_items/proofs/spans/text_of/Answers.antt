use Rattle.rx_terms.proofs.Common.{◌++◌, ℕ, sym, subst, chars}
use Rattle.rx_values.specs.Marks.{CutAt}
use Rattle.rx_items.proofs.SpanLemmas.{run_begins, run_ends}
use Rattle.rx_items.proofs.spans.text_of.Goals as goal

pub returns : goal.returns
returns c front text rest run =
    c.front.ensures text rest
    (subst (λ (n : ℕ). CutAt (chars c.since.result.now) n text rest) (sym c.saturating_sub.ensures)
    (run_ends c.args.store.now (chars c.since.result.now) c.args.span front text rest run
    (c.since.ensures.rest front (text ++ rest) (run_begins c.args.store.now c.args.span front text rest run))))
