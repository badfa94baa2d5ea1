use Rattle.std.proofs.Common.{◌∙◌, sym}
use Rattle.rx_turtle.proofs.PlaceLemmas.{plain_none}
use Rattle.rx_turtle.proofs.shorts.Shorts.is_plain.Goals as goal

pub returns-clause-name : goal.returns-clause-name
returns-clause-name c = λ h. c.self.invariant.finds.known.names c.args.byte (sym c.is_plain.ensures ∙ h)

pub returns-clause-none : goal.returns-clause-none
returns-clause-none c = λ h bytes end some within last.
    rw (← c.self.view_is) (plain_none c.self.inside.context.now.prefixes c.self.inside.places c.args.byte c.self.invariant.finds (sym c.is_plain.ensures ∙ h) bytes end some within last)
