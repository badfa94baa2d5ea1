use Rattle.std.proofs.Common.{◌∙◌, ap, sym, length}
use Rattle.rx_turtle.proofs.PlaceLemmas.{no_place}
use Rattle.rx_turtle.proofs.shorts.Shorts.learn.Goals as goal

pub returns-then-prefix_count-eq0-clause-place : goal.returns-then-prefix_count-eq0-clause-place
returns-then-prefix_count-eq0-clause-place c = no_place c.args.self.now c.args.iri.now (ap length (sym c.self.view_is) ∙ sym c.prefix_count.ensures.count ∙ c.if-prefix_count-eq0.true)
