use Rattle.rx_rdfa.proofs.Whole.{written_denotes as law}
use Rattle.rx_rdfa.proofs.written_denotes.Goals as goal

pub returns : goal.returns
returns c = law
