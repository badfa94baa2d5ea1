use Rattle.rx_turtle.proofs.Common.{drop, AreRows}
use Rattle.rx_turtle.specs.Places.{Finds}
use Rattle.rx_turtle.proofs.places.Places.of.Given as goal

abbrev pub invariant-loop-place : goal.invariant-loop-place
invariant-loop-place l = Finds l.place (drop l.place l.context.prefixes) l.places × AreRows (drop l.place l.context.prefixes)
