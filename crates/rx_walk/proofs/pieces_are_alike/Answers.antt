use Rattle.rx_walk.proofs.Alike.{pieces_alike}
use Rattle.rx_walk.proofs.pieces_are_alike.Goals as goal

pub returns : goal.returns
returns c = pieces_alike
