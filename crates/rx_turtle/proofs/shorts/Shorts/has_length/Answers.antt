use Rattle.std.proofs.Common.{◌∙◌, sym}
use Rattle.rx_turtle.proofs.PlaceLemmas.{length_none}
use Rattle.rx_turtle.proofs.shorts.Shorts.has_length.Goals as goal

pub returns : goal.returns
returns c = λ h bytes within. rw (← c.self.view_is) (length_none c.self.inside.context.now.prefixes c.self.inside.places c.args.size c.self.invariant.finds (sym c.has_length.ensures ∙ h) bytes within)
