use Rattle.std.proofs.Common.{◌∙◌}
use Rattle.rx_graph.proofs.WayLemmas.{insert_known}
use Rattle.rx_graph.proofs.reached.Reached.add.Goals as goal

pub returns : goal.returns
returns c = c.in_ok-insert.ensures.keys
    ∙ rw (← c.self.view_is) (insert_known c.self.inside.numbers.keys c.args.number)
