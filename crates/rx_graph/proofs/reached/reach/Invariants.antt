use Rattle.std.proofs.Common.{◌-◌, length}
use Rattle.rx_graph.proofs.WayLemmas.{Walking}
use Rattle.rx_graph.proofs.reached.reach.Given as goal

abbrev pub invariant-loop-done : goal.invariant-loop-done
invariant-loop-done l = Walking l.nexts l.lead l.from l.reached l.done

abbrev pub decreases-loop-done : goal.decreases-loop-done
decreases-loop-done l = length l.lead - l.done
