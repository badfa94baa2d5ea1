use Rattle.rx_rows.proofs.many_refuse.Goals as goal
use Rattle.rx_rows.proofs.Many.{many_refuse as row}

pub returns : goal.returns
returns c = row
