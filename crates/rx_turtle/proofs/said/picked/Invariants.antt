use Rattle.rx_model.proofs.Common.{◌≡◌, take, map, triples_seen}
use Rattle.rx_shapes.specs.Places.{picked}
use Rattle.rx_turtle.proofs.GroupLemmas.{lent_seen}
use Rattle.rx_turtle.proofs.said.picked.Given as goal

abbrev pub invariant-loop-i : goal.invariant-loop-i
invariant-loop-i l = map lent_seen l.triples.items ≡ picked (triples_seen l.graph) (take l.i l.places)
