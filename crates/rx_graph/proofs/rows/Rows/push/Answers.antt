use Rattle.rx_terms.proofs.Common.{◌∙◌, ◌<◌, ap, sym, arith, length, get_or, length-map}
use Rattle.std.proofs.Math.Seq.{map-set_same}
use Rattle.rx_graph.proofs.SetLemmas.{row_grown, row_pushed, row_refused}
use Rattle.rx_graph.proofs.rows.Rows.push.Goals as goal

pub returns-clause-ok : goal.returns-clause-ok
returns-clause-ok c =
    let within : c.args.row < length c.self.inside.rows.items = omega (arith, c.requires, ap length c.self.view_is, length-map c.self.inside.rows.items (λ row. row.items)) in
    rw (← c.self.view_is) (row_pushed (λ row. row.items) c.self.inside.rows.items c.args.row c.index_mut.result.now c.push.new.self c.args.number within
    (row_grown (λ row. row.items) c.push.result c.index_mut.result.now c.push.new.self (get_or c.self.inside.rows.items c.args.row c.index_mut.result.now) c.args.number
    (sym c.is_err.ensures.value ∙ c.if-is_err.false) c.push.ensures.items c.index_mut.ensures.value))

pub returns-then-is_err-clause-err : goal.returns-then-is_err-clause-err
returns-then-is_err-clause-err c =
    rw (← c.self.view_is) (map-set_same (λ row. row.items) c.self.inside.rows.items c.args.row c.push.new.self c.index_mut.result.now
    (row_refused (λ row. row.items) c.push.result c.index_mut.result.now c.push.new.self (get_or c.self.inside.rows.items c.args.row c.index_mut.result.now) c.args.number
    (sym c.is_err.ensures.value ∙ c.if-is_err.true) c.push.ensures.items c.index_mut.ensures.value))
