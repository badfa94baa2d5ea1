use Rattle.rx_model.specs.Seen.{triples_seen}
use Rattle.rx_page.proofs.MadeLemmas.{quads_denote}
use Rattle.rx_page.proofs.outcomes.Outcome.of_graph.Goals as goal

pub returns-in-Nquads-clause-denoted : goal.returns-in-Nquads-clause-denoted
returns-in-Nquads-clause-denoted c = λ denoted. quads_denote c.args.form c.in-Nquads.name (triples_seen c.args.graph) _ c.in-Nquads.is denoted
