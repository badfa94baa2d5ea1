use Rattle.rx_command.specs.Feeding.{FedTo}
use Rattle.rx_command.proofs.samples.Feeding.feed.Given as goal

abbrev pub invariant-loop-number : goal.invariant-loop-number
invariant-loop-number l = FedTo l.number l.self
