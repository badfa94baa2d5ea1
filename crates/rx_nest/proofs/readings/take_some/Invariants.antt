use Rattle.rx_nest.specs.Nests.{left}
use Rattle.rx_nest.proofs.Quieting.{TurnsOn}
use Rattle.rx_nest.proofs.readings.take_some.Given as goal

abbrev pub invariant-turns : goal.invariant-turns
invariant-turns g l = TurnsOn g.L.Listener.way g.L.Listener.knows g.L.Listener.idle l.fn.nest l.fn.listener l.piece l.nest l.listener

abbrev pub decreases-turns : goal.decreases-turns
decreases-turns g l = left l.nest.owed
