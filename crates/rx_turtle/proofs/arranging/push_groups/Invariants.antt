use Rattle.rx_turtle.proofs.Common.{◌≡◌, ◌++◌, take, map, all_in}
use Rattle.rx_turtle.proofs.GroupLemmas.{lent_seen}
use Rattle.rx_turtle.proofs.arranging.push_groups.Given as goal

abbrev pub invariant-loop-i : goal.invariant-loop-i
invariant-loop-i l = map lent_seen l.list.items ≡ map lent_seen l.fn.list.items ++ all_in (take l.i l.groups)
