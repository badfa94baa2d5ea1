use Rattle.rx_scan.proofs.Simulation.{known, known_with}
use Rattle.rx_scan.proofs.known_are_tags.Goals as goal

pub returns : goal.returns
returns c = λ syntax inside pending text h. (known syntax inside pending.run pending.tag text pending.mark h, λ x. known_with syntax inside pending.run pending.tag text pending.mark x h)
