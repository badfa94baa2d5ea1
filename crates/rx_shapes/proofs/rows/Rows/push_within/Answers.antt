use Rattle.rx_shapes.proofs.Common.{sym, arith}
use Rattle.rx_graph.proofs.WayLemmas.{pushed_beyond}
use Rattle.rx_shapes.proofs.rows.Rows.push_within.Goals as goal

pub returns-then-row-len : goal.returns-then-row-len
returns-then-row-len c = sym (pushed_beyond c.args.self.now c.args.row c.args.number (omega (arith, c.if-row-len.true, c.len.ensures)))
