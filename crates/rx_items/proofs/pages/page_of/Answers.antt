use Rattle.serde_json.specs.View.{view}
use Rattle.rx_items.proofs.Common.{standard_bounds, outcome_in, JsonGives}
use Rattle.rx_items.proofs.VisitLemmas.{err_told}
use Rattle.rx_items.proofs.PageLemmas.{json_refused, json_given}
use Rattle.rx_items.proofs.pages.page_of.Goals as goal

pub returns-in_err-visit_all : goal.returns-in_err-visit_all
returns-in_err-visit_all c rows base holds =
    err_told (λ r. JsonGives (outcome_in standard_bounds base rows) r) c.from_residual.result c.in_err-visit_all.field-0.0 c.from_residual.ensures.1
    (json_refused rows base c.in_err-visit_all.field-0.0 (c.in_err-visit_all.ensures rows base holds))

pub returns : goal.returns
returns c rows base holds = json_given rows base (view c.in_ok-value.field-0) (c.in_ok-visit_all.ensures rows base holds) (c.in_ok-value.ensures rows base holds)
