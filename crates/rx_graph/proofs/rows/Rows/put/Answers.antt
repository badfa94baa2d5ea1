use Rattle.std.proofs.Common.{sym, arith}
use Rattle.rx_graph.proofs.WayLemmas.{pushed_beyond}
use Rattle.rx_graph.proofs.rows.Rows.put.Goals as goal

pub returns-then-row-len-clause-ok : goal.returns-then-row-len-clause-ok
returns-then-row-len-clause-ok c = sym (pushed_beyond c.args.self.now c.args.row c.args.number (omega (arith, c.if-row-len.true, c.len.ensures)))
