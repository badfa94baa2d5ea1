use Rattle.rx_eval.proofs.Common.{◌∙◌, ◌++◌, ap, refl, List, ℕ, option_map, Triple, term_seen, triples_seen, facts_seen, found_seen, naming, standing_at}
use Rattle.rx_eval.proofs.StartLemmas.{start_is}
use Rattle.rx_eval.proofs.places.Surroundings.start.Goals as goal

pub returns-clause-triples : goal.returns-clause-triples
returns-clause-triples c =
    c.in_ok-push_start.ensures
    ∙ ap (λ (l : List (Triple ℕ)). triples_seen c.args.out.now ++ l)
    (start_is (naming c.args.self.now) c.args.self.now.base.now (standing_at c.args.self.now (facts_seen c.args.facts.now)) (found_seen c.in_ok-found.found)
    (option_map term_seen c.in_ok-value.value) c.args.self.now.around.now.hanging c.in_ok-found.ensures c.in_ok-value.ensures refl)
