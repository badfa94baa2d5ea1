use Rattle.std.proofs.Common.{sym, ◌∙◌, None}
use Rattle.rx_lists.proofs.SlotLemmas.{row_grown, row_kept}
use Rattle.rx_lists.proofs.slot_rows.SlotRows.grow.Goals as goal

pub returns-then-is_err-clause-err : goal.returns-then-is_err-clause-err
returns-then-is_err-clause-err c =
    row_kept (λ row. row.items) c.self.inside.rows.items c.args.row c.index_mut.result.now c.push.new.self c.args.self.now None c.push.result c.self.view_is c.requires
    c.index_mut.ensures.value c.push.ensures.items (sym c.is_err.ensures.value ∙ c.if-is_err.true)

pub returns-clause-ok : goal.returns-clause-ok
returns-clause-ok c =
    row_grown (λ row. row.items) c.self.inside.rows.items c.args.row c.index_mut.result.now c.push.new.self c.args.self.now None c.push.result c.self.view_is c.requires
    c.index_mut.ensures.value c.push.ensures.items (sym c.is_err.ensures.value ∙ c.if-is_err.false)
