use Rattle.rx_turtle.proofs.DueLemmas.{said_pushed}
use Rattle.rx_turtle.proofs.due.push_said.Goals as goal

pub returns : goal.returns
returns c = said_pushed _ _ _ _ _ _ _ c.in_ok-say.ensures c.in_ok-push_lines.ensures c.in_ok-say-2.ensures c.in_ok-push.ensures
