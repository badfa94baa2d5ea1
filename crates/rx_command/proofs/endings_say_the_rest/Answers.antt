use Rattle.rx_command.proofs.EndingsSaid.{endings_say}
use Rattle.rx_command.proofs.endings_say_the_rest.Goals as goal

pub returns : goal.returns
returns c = endings_say
