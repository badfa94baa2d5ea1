use Rattle.rx_command.proofs.RowLemmas.{rows_are_answered}
use Rattle.rx_command.proofs.rows_are_answered.Goals as goal

pub returns : goal.returns
returns c = rows_are_answered
