use Rattle.rx_items.proofs.rows_suffice.Goals as goal
use Rattle.rx_items.proofs.RowLaws.{rows_suffice as law}

pub returns : goal.returns
returns c = law
