use Rattle.rx_turtle.proofs.Common.{rules, token_seen, task_seen}
use Rattle.rx_turtle.proofs.RunLemmas.{running_turn, running_end, fewer_left}
use Rattle.rx_turtle.proofs.nesting.run.Goals as goal

pub loop-task-smaller : goal.loop-task-smaller
loop-task-smaller c =
    fewer_left c.args.source.now c.args.stack.now c.args.tokens.now.items c.requires.source c.loop-task.stack c.pop.new.self c.start.new.stack (task_seen c.in-Some.task) c.loop-task.tokens.items
    (token_seen c.in_ok-token.token) c.in-Some.ensures c.in_ok-token.ensures c.loop-task.invariant

pub loop-task-preserved : goal.loop-task-preserved
loop-task-preserved c =
    running_turn c.args.source.now c.args.stack.now c.args.tokens.now.items c.requires.source c.loop-task.stack c.pop.new.self c.start.new.stack (task_seen c.in-Some.task) c.loop-task.tokens.items
    c.push.new.self.items c.in_ok-token.token c.in-Some.ensures c.in_ok-token.ensures c.in_ok-push.ensures.items c.loop-task.invariant

pub returns-clause-comes : goal.returns-clause-comes
returns-clause-comes c = running_end c.args.source.now c.args.stack.now c.loop-task.stack c.args.tokens.now.items c.loop-task.tokens.items (search rules) c.loop-task.invariant
