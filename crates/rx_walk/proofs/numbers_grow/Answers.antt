use Rattle.rx_walk.proofs.GrownNumbers.{numbers_grow}
use Rattle.rx_walk.proofs.numbers_grow.Goals as goal

pub returns : goal.returns
returns c = numbers_grow
