use Rattle.rx_turtle.proofs.Common.{◌≡◌, ◌≤◌, true, take, map, list_all, resource_seen, has_key}
use Rattle.rx_turtle.proofs.GroupLemmas.{lent_seen}
use Rattle.rx_turtle.proofs.cuts.end_of_run.Given as goal

abbrev pub invariant-loop-i : goal.invariant-loop-i
invariant-loop-i l = (1 ≤ l.i) × (list_all (has_key l.by (resource_seen l.key)) (take l.i (map lent_seen l.triples)) ≡ true)
