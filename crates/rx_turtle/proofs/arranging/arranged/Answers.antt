use Rattle.rx_turtle.proofs.Common.{◌∙◌, ap, map, flat_map, triples_seen, grouped, by_predicate}
use Rattle.rx_turtle.specs.declared.keys.By.TheVariants as by
use Rattle.rx_turtle.proofs.GroupLemmas.{lent_seen}
use Rattle.rx_turtle.proofs.ArrangedLemmas.{arranged_is}
use Rattle.rx_turtle.proofs.arranging.arranged.Goals as goal

pub returns : goal.returns
returns c =
    arranged_is (triples_seen c.args.graph.now) (map lent_seen c.in_ok-arrange.field-0.items)
    (c.in_ok-arrange.ensures ∙ ap (flat_map by_predicate) (c.in_ok-subjects.ensures ∙ ap (grouped by.Subject) (ap (map lent_seen) c.deref.ensures.value ∙ c.in_ok-triples.ensures)))
