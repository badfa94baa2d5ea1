use Rattle.rx_turtle.proofs.Common.{◌∙◌, ap, map, node_seen, triples_seen, grouped, runs}
use Rattle.rx_turtle.specs.declared.keys.By.TheVariants as by
use Rattle.rx_turtle.proofs.GroupLemmas.{lent_seen}
use Rattle.rx_turtle.proofs.SaidLemmas.{said_is}
use Rattle.rx_turtle.proofs.said.said_of.Goals as goal

pub returns : goal.returns
returns c =
    said_is (triples_seen c.args.graph.now) (node_seen c.args.node.now) c.places.result.now (map lent_seen c.in_ok-triples.triples.items) (runs by.Predicate (map lent_seen c.in_ok-by_predicate.field-0.items))
    (c.places.ensures ∙ c.requires.places (node_seen c.args.node.now)) c.in_ok-triples.ensures (c.in_ok-by_predicate.ensures ∙ ap (λ z. grouped by.Predicate (map lent_seen z)) c.deref.ensures.value)
