use Rattle.rx_rdfa.proofs.Made.{made_is_raw as law}
use Rattle.rx_rdfa.proofs.made_is_raw.Goals as goal

pub returns : goal.returns
returns c = law
