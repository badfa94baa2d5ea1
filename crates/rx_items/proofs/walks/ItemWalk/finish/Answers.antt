use Rattle.std.proofs.Common.{sym, subst}
use Rattle.rx_items.specs.Walks.{ItemWalkEndGives, ItemWalkStands}
use Rattle.rx_items.proofs.Ending.{unfinished}
use Rattle.rx_items.proofs.VisitLemmas.{err_told}
use Rattle.rx_items.proofs.walks.ItemWalk.finish.Goals as goal

pub returns-in_err-collector-clause-gives : goal.returns-in_err-collector-clause-gives
returns-in_err-collector-clause-gives c setting bytes s =
    err_told (λ r. ItemWalkEndGives setting bytes r) c.from_residual.result c.in_err-collector.field-0.0 c.from_residual.ensures.1
    (unfinished setting bytes c.in_err-collector.field-0.0 (c.in_err-collector.ensures.gives setting bytes (subst (λ v. ItemWalkStands setting v bytes) (sym c.self.view_is) s)))

pub returns-clause-gives : goal.returns-clause-gives
returns-clause-gives c setting bytes s =
    let whole = c.in_ok-collector.ensures.gives setting bytes (subst (λ v. ItemWalkStands setting v bytes) (sym c.self.view_is) s) in
    record { tree = whole.tree; page = whole.page; holds = c.in_ok-items_of.ensures setting bytes whole }
