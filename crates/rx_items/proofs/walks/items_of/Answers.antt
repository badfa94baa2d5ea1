use Rattle.rx_items.proofs.Common.{subst, IfOk, signs_of, rows_of, HoldsRows, BaseIs}
use Rattle.rx_base.specs.Seekings.{sought}
use Rattle.rx_items.specs.declared.collectors.Base.{Base}
use Rattle.rx_items.proofs.Ending.{base_known, base_is, rows_shown}
use Rattle.rx_items.proofs.walks.items_of.Goals as goal

pub unreachable-requires : goal.unreachable-requires
unreachable-requires c = base_known c.args.collector c.in-Sought._sought c.in-Sought.is c.requires

pub returns : goal.returns
returns c setting bytes whole =
    let at = subst (λ (b : Base). BaseIs setting.address (sought (signs_of whole.tree)) b) c.in-Known.is whole.known.base_is in
    subst (λ b. IfOk c.of_table.result (λ items. HoldsRows items (rows_of whole.tree) b)) (base_is setting bytes c.args.collector whole c.in-Known.base at)
    (c.of_table.ensures whole.tree (rows_shown setting bytes c.args.collector whole))
