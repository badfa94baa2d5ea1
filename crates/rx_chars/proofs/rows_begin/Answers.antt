use Rattle.rx_chars.proofs.Utf8Exact.{rows_are_begun}
use Rattle.rx_chars.proofs.rows_begin.Goals as goal

pub returns : goal.returns
returns c = rows_are_begun
