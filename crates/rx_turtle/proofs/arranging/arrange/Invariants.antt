use Rattle.rx_turtle.proofs.Common.{◌≡◌, take, map, flat_map, by_predicate}
use Rattle.rx_turtle.proofs.GroupLemmas.{lent_seen}
use Rattle.rx_turtle.proofs.arranging.arrange.Given as goal

abbrev pub invariant-loop-i : goal.invariant-loop-i
invariant-loop-i l = map lent_seen l.list.items ≡ flat_map by_predicate (take l.i l.subjects)
