use Rattle.rx_turtle.proofs.Common.{◌∙◌, arith, refl, length, place_below}
use Rattle.rx_turtle.proofs.PlaceLemmas.{goes_on, from_start}
use Rattle.rx_turtle.proofs.shorts.Shorts.place_within.Goals as goal

pub loop-left-preserved-then-is_plain : goal.loop-left-preserved-then-is_plain
loop-left-preserved-then-is_plain c = (
  omega (arith, c.loop-left.invariant.0),
  goes_on c.args.self.now c.args.bytes.now c.loop-left.left (place_below c.args.self.now c.args.bytes.now (length c.args.bytes.now)) (omega (arith, c.loop-left-test.true))
      (c.if-is_plain.ensures.none refl c.args.bytes.now c.loop-left.left (omega (arith, c.loop-left-test.true)) c.loop-left.invariant.0 refl) (c.if-is_plain.ensures.name refl) c.loop-left.invariant.1,
)

pub returns : goal.returns
returns c = c.place_at-2.ensures ∙ from_start c.args.self.now c.args.bytes.now c.loop-left.left (place_below c.args.self.now c.args.bytes.now (length c.args.bytes.now)) (omega (arith, c.loop-left-test.false)) c.loop-left.invariant.1
