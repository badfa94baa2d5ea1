use Rattle.rx_model.proofs.Common.{map, slice_get-get_or, triples_seen}
use Rattle.rx_turtle.proofs.GroupLemmas.{lent_seen}
use Rattle.rx_turtle.proofs.SaidLemmas.{picked_turn}
use Rattle.rx_turtle.proofs.said.picked.Goals as goal

pub loop-i-preserved : goal.loop-i-preserved
loop-i-preserved c =
    picked_turn (triples_seen c.args.graph.now) c.args.places.now c.loop-i.i _ (map lent_seen c.loop-i.triples.items) (map lent_seen c.pick.new.triples.items)
    (slice_get-get_or c.args.places.now c.loop-i.i _ c.loop-i-test.true) c.in_ok-pick.ensures c.loop-i.invariant
