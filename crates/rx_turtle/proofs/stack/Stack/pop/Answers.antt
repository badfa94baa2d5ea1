use Rattle.std.proofs.Common.{length}
use Rattle.rx_turtle.proofs.DueLemmas.{popped, some_tasks}
use Rattle.rx_turtle.proofs.stack.Stack.pop.Goals as goal

pub returns : goal.returns
returns c =
    rw (← c.self.view_is)
    (popped c.pop.result c.self.inside.tasks.items c.pop.new.self.items _ c.pop.ensures.items c.pop.ensures.variant
    (some_tasks (length c.as_slice.result.now) _ c.is_empty.result c.if-is_empty.false c.is_empty.ensures c.as_slice.ensures.len))
