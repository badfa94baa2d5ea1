use Rattle.rx_shapes.proofs.Common.{◌≡◌, suc, length, take, filed, table, source_row}
use Rattle.rx_shapes.proofs.chains.sources.Given as goal

abbrev pub invariant-loop-i : goal.invariant-loop-i
invariant-loop-i l = l.rows ≡ table (filed (source_row (length l.links)) (take l.i l.links)) 0 (suc (length l.links))
