use Rattle.rx_turtle.proofs.Common.{◌≡◌, ◌∙◌, ◌++◌, [], ap, map, rules, grouped, all_in}
use Rattle.rx_turtle.specs.declared.keys.By.TheVariants as by
use Rattle.rx_turtle.proofs.GroupLemmas.{lent_seen}
use Rattle.rx_turtle.proofs.ArrangedLemmas.{predicates_are}
use Rattle.rx_turtle.proofs.arranging.by_predicate.Goals as goal

pub returns : goal.returns
returns c =
    let none : c.in_ok-list.list.items ≡ [] = search rules in
    predicates_are (map lent_seen c.args.triples.now) (map lent_seen c.push_arranged.new.list.items)
    (c.in_ok-push_arranged.ensures ∙ ap (λ z. map lent_seen z ++ all_in (grouped by.Predicate (map lent_seen c.args.triples.now))) none)
