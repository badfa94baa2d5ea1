use Rattle.rx_turtle.proofs.RunLemmas.{Running, left}
use Rattle.rx_turtle.proofs.nesting.run.Given as goal

abbrev pub invariant-loop-task : goal.invariant-loop-task
invariant-loop-task l = Running l.source l.fn.stack l.fn.tokens.items l.stack l.tokens.items

abbrev pub decreases-loop-task : goal.decreases-loop-task
decreases-loop-task l = left l.source l.stack
