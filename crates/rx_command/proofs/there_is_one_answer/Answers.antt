use Rattle.rx_command.proofs.OneAnswer.{one_answer}
use Rattle.rx_command.proofs.there_is_one_answer.Goals as goal

pub returns : goal.returns
returns c = one_answer
