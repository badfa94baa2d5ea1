use Rattle.rx_walk.proofs.Alike.{pieces_lead}
use Rattle.rx_walk.proofs.pieces_lead_alike.Goals as goal

pub returns : goal.returns
returns c = pieces_lead
