use Rattle.rx_turtle.proofs.DueLemmas.{pushed_due}
use Rattle.rx_turtle.proofs.stack.Stack.push.Goals as goal

pub returns : goal.returns
returns c = rw (← c.self.view_is) (pushed_due _ _ _ c.in_ok-push.ensures.items)
