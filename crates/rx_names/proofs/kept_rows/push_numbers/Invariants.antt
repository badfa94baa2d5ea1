use Rattle.rx_names.proofs.Common.{◌≡◌, ◌++◌, map, take, row_number}
use Rattle.rx_names.proofs.kept_rows.push_numbers.Given as goal

abbrev pub invariant-loop-row : goal.invariant-loop-row
invariant-loop-row l = l.places ≡ l.fn.places ++ map row_number (take l.row-index l.rows)
