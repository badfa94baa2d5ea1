use Rattle.rx_scan.proofs.Simulation.{simulates}
use Rattle.rx_scan.proofs.moves_are_verdicts.Goals as goal

pub returns : goal.returns
returns c = simulates
