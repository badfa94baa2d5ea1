use Rattle.rx_items.proofs.Common.{standard_bounds, outcome_in, TextGives}
use Rattle.rx_items.proofs.VisitLemmas.{err_told}
use Rattle.rx_items.proofs.PageLemmas.{text_given, text_refused}
use Rattle.rx_items.proofs.pages.text_of.Goals as goal

pub returns-in_err-visit_all : goal.returns-in_err-visit_all
returns-in_err-visit_all c rows base holds =
    err_told (λ r. TextGives (outcome_in standard_bounds base rows) r) c.from_residual.result c.in_err-visit_all.field-0.0 c.from_residual.ensures.1
    (text_refused rows base c.in_err-visit_all.field-0.0 (c.in_err-visit_all.ensures rows base holds))

pub returns : goal.returns
returns c rows base holds = text_given rows base c.in_ok-written.field-0.items (c.in_ok-visit_all.ensures rows base holds) (c.in_ok-written.ensures rows base holds)
