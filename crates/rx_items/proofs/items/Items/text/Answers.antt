use Rattle.rx_items.proofs.Common.{subst, sym, Outcome, standard_bounds, rows_of, HoldsRows, TextGives}
use Rattle.rx_items.specs.declared.kept.Kept.{Kept}
use Rattle.rx_items.proofs.RowLaws.{rows_suffice}
use Rattle.rx_items.proofs.items.Items.text.Goals as goal

pub returns : goal.returns
returns c tree base holds =
    subst (λ (outcome : Outcome). TextGives outcome c.text_of.result) (rows_suffice standard_bounds base tree)
    (c.text_of.ensures (rows_of tree) base (subst (λ (kept : Kept). HoldsRows kept (rows_of tree) base) (sym c.self.view_is) holds))
