use Rattle.rx_model.proofs.Common.{◌≡◌, take, map, triples_seen}
use Rattle.rx_turtle.proofs.GroupLemmas.{lent_seen}
use Rattle.rx_turtle.proofs.lent.borrowed.Given as goal

abbrev pub invariant-loop-i : goal.invariant-loop-i
invariant-loop-i l = map lent_seen l.triples.items ≡ triples_seen (take l.i l.graph)
