use Rattle.rx_shapes.proofs.Common.{◌-◌, length}
use Rattle.rx_shapes.proofs.ChainLemmas.{Settling}
use Rattle.rx_shapes.proofs.chains.settle.Given as goal

abbrev pub invariant-loop-done : goal.invariant-loop-done
invariant-loop-done l = Settling l.links l.reached l.done

abbrev pub decreases-loop-done : goal.decreases-loop-done
decreases-loop-done l = length l.links - l.done
