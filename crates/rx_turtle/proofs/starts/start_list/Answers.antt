use Rattle.rx_turtle.proofs.DueLemmas.{enclosed}
use Rattle.rx_turtle.proofs.starts.start_list.Goals as goal

pub returns : goal.returns
returns c = enclosed _ _ _ _ _ _ c.in_ok-say.ensures c.in_ok-push_cell.ensures
