use Rattle.rx_turtle.proofs.Common.{◌≡◌, ◌++◌, take, map, keys_by, all_in}
use Rattle.rx_turtle.specs.declared.keys.By.TheVariants as by
use Rattle.rx_turtle.proofs.GroupLemmas.{lent_seen, rows_by}
use Rattle.rx_turtle.proofs.arranging.push_few.Given as goal

abbrev pub invariant-loop-i : goal.invariant-loop-i
invariant-loop-i l = map lent_seen l.list.items ≡ map lent_seen l.fn.list.items ++ all_in (rows_by by.Predicate (map lent_seen l.triples) (keys_by by.Predicate (take l.i (map lent_seen l.triples))))
