use Rattle.rx_turtle.proofs.Common.{◌≡◌, ◌++◌, take, map, filter, resource_seen, has_key}
use Rattle.rx_turtle.specs.declared.keys.By.TheVariants as by
use Rattle.rx_turtle.proofs.GroupLemmas.{lent_seen}
use Rattle.rx_turtle.proofs.arranging.push_those_with.Given as goal

abbrev pub invariant-loop-i : goal.invariant-loop-i
invariant-loop-i l = map lent_seen l.list.items ≡ map lent_seen l.fn.list.items ++ filter (has_key by.Predicate (resource_seen l.key)) (take l.i (map lent_seen l.triples))
