use Rattle.std.proofs.Common.{arith}
use Rattle.rx_turtle.proofs.PlaceLemmas.{finds_one_more, rows_one_more}
use Rattle.rx_turtle.proofs.places.Places.of.Goals as goal

pub loop-place-preserved : goal.loop-place-preserved
loop-place-preserved c = (
  finds_one_more c.args.context.now.prefixes c.loop-place.place _ _ c.loop-place.places c.add.new.self (omega (arith, c.loop-place-test.true)) c.prefix_at.ensures.row c.in_ok-add.ensures.puts c.loop-place.invariant.0,
  rows_one_more c.args.context.now.prefixes c.loop-place.place _ _ (omega (arith, c.loop-place-test.true)) c.prefix_at.ensures.row (c.add.ensures.row c.prefix_at.ensures.iri) c.loop-place.invariant.1,
)
