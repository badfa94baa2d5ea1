use Rattle.std.proofs.Common.{length}
use Rattle.rx_nest.proofs.Quieting.{TakesOn}
use Rattle.rx_nest.proofs.readings.take_all.Given as goal

abbrev pub invariant-turns : goal.invariant-turns
invariant-turns g l = TakesOn g.L.Listener.way g.L.Listener.knows g.L.Listener.idle l.fn.nest l.fn.listener l.piece l.rest l.nest l.listener

abbrev pub decreases-turns : goal.decreases-turns
decreases-turns g l = length l.rest
