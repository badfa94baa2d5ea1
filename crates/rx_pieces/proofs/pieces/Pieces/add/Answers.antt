use Rattle.rx_pieces.proofs.Sending.{kept}
use Rattle.rx_pieces.proofs.pieces.Pieces.add.Goals as goal

pub returns-then-bytes-room : goal.returns-then-bytes-room
returns-then-bytes-room g c = kept _ _ _ _ _ c.keep.ensures
