use Rattle.rx_turtle.proofs.Common.{◌≡◌, take, unmarked}
use Rattle.rx_turtle.proofs.uses.unmarked.Given as goal

abbrev pub invariant-loop : goal.invariant-loop
invariant-loop l = l.marks.items ≡ unmarked (take l.counter l.shorts)
