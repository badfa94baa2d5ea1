use Rattle.rx_model.proofs.Common.{◌∙◌, ap, triples_seen}
use Rattle.rx_graph.proofs.SetLemmas.{added_seen}
use Rattle.rx_graph.proofs.CodeEq.{code_eq, exact_code}
use Rattle.rx_graph.proofs.sets.TripleSet.add.Goals as goal

pub returns : goal.returns
returns c = ap triples_seen c.in_ok-insert.ensures.keys
    ∙ rw (← c.self.view_is) (added_seen code_eq exact_code c.self.inside.triples.keys c.args.triple)
