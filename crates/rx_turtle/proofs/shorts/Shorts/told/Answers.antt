use Rattle.rx_turtle.specs.Shorts.{prefix_place}
use Rattle.rx_turtle.proofs.shorts.Shorts.told.Goals as goal

pub returns : goal.returns
returns c = rw (← c.self.view_is) (c.told.ensures (prefix_place c.self.inside.context.now.prefixes) c.self.invariant.entries)
