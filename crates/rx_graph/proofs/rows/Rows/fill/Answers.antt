use Rattle.std.proofs.lemmas.List.{map-set}
use Rattle.rx_graph.proofs.rows.Rows.fill.Goals as goal

pub returns : goal.returns
returns c = rw (← c.self.view_is) (map-set (λ row. row.items) c.self.inside.rows.items c.args.row c.args.numbers)
