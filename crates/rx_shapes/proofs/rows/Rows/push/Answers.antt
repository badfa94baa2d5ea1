use Rattle.rx_shapes.proofs.Common.{◌∙◌, ◌<◌, ap, sym, arith, length, get_or, length-map, row_grown, row_pushed}
use Rattle.rx_shapes.proofs.rows.Rows.push.Goals as goal

pub returns : goal.returns
returns c =
    let within : c.args.row < length c.self.inside.rows.items = omega (arith, c.requires, ap length c.self.view_is, length-map c.self.inside.rows.items (λ row. row.items)) in
    rw (← c.self.view_is) (row_pushed (λ row. row.items) c.self.inside.rows.items c.args.row c.index_mut.result.now c.push.new.self c.args.number within
    (row_grown (λ row. row.items) c.push.result c.index_mut.result.now c.push.new.self (get_or c.self.inside.rows.items c.args.row c.index_mut.result.now) c.args.number
    (sym c.is_err.ensures.value ∙ c.if-is_err.false) c.push.ensures.items c.index_mut.ensures.value))
