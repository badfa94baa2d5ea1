use Rattle.rx_turtle.proofs.Common.{◌≡◌, nat_eq, map, drop, contains, same_node, resource_seen, group_key}
use Rattle.rx_turtle.specs.declared.keys.By.TheVariants as by
use Rattle.rx_turtle.proofs.GroupLemmas.{lent_seen}
use Rattle.rx_turtle.proofs.arranging.occurs.Given as goal

abbrev pub invariant-loop-i : goal.invariant-loop-i
invariant-loop-i l =
    contains (same_node nat_eq) (map (group_key by.Predicate) (map lent_seen l.triples)) (resource_seen l.key)
    ≡ contains (same_node nat_eq) (map (group_key by.Predicate) (drop l.i (map lent_seen l.triples))) (resource_seen l.key)
