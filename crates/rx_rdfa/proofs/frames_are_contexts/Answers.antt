use Rattle.rx_rdfa.proofs.Calls.{frames_are_contexts as law}
use Rattle.rx_rdfa.proofs.frames_are_contexts.Goals as goal

pub returns : goal.returns
returns c = law
