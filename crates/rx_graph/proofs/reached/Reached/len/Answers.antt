use Rattle.rx_graph.proofs.WayLemmas.{numbers_once}
use Rattle.rx_graph.proofs.reached.Reached.len.Goals as goal

pub returns-clause-each_once : goal.returns-clause-each_once
returns-clause-each_once c = rw (← c.self.view_is) (numbers_once c.self.inside.numbers.keys c.len.ensures.unique)
