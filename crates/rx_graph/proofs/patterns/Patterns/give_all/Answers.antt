use Rattle.rx_model.proofs.Common.{arith, slice_get-get_or, take_all, node_seen, triples_seen}
use Rattle.rx_graph.proofs.PlaceLemmas.{given_turn}
use Rattle.rx_graph.proofs.patterns.Patterns.give_all.Goals as goal

pub loop-place-preserved : goal.loop-place-preserved
loop-place-preserved c = given_turn (triples_seen c.args.self.now) (node_seen c.args.subject.now) c.args.places.now c.loop-place.place-index _ _ _ _ (slice_get-get_or c.args.places.now c.loop-place.place-index 0 c.loop-place-test.true) c.in_ok-give_at.ensures c.loop-place.invariant

pub returns : goal.returns
returns c = rw (take_all c.loop-place.place-index c.args.places.now (omega (arith, c.loop-place-test.false))) at c.loop-place.invariant
