use Rattle.rx_graph.proofs.SetLemmas.{graph_once}
use Rattle.rx_graph.proofs.CodeEq.{code_eq, exact_code}
use Rattle.rx_graph.proofs.sets.TripleSet.len.Goals as goal

pub returns-clause-each_once : goal.returns-clause-each_once
returns-clause-each_once c = rw (← c.self.view_is) (graph_once code_eq exact_code c.self.inside.triples.keys c.len.ensures.unique)
