use Rattle.rx_nquads.proofs.Proper.{proper_stays}
use Rattle.rx_nquads.proofs.proper_triples_stay.Goals as goal

pub returns : goal.returns
returns c = proper_stays
