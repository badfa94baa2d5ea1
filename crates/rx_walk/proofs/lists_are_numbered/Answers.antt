use Rattle.rx_walk.proofs.GrownNumbers.{list_is_numbered}
use Rattle.rx_walk.proofs.lists_are_numbered.Goals as goal

pub returns : goal.returns
returns c = list_is_numbered
