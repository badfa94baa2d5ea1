use Rattle.rx_turtle.proofs.Common.{◌≡◌, take, map, group_keys, grouped}
use Rattle.rx_turtle.proofs.GroupLemmas.{lent_seen}
use Rattle.rx_turtle.proofs.groups.Groups.of.Given as goal

abbrev pub invariant-loop-i : goal.invariant-loop-i
invariant-loop-i l = (l.groups ≡ grouped l.by (map lent_seen (take l.i l.triples))) × (l.keys ≡ group_keys l.groups)
