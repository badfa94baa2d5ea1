use Rattle.std.proofs.Common.{rules}
use Rattle.rx_tags.proofs.EndLemmas.{closes}
use Rattle.rx_tags.proofs.tag_text.TagText.closes.Goals as goal

pub invariant_of-self : goal.invariant_of-self
invariant_of-self c = λ _. c.self.invariant (rw c.in-Some.is at c.closed.ensures).outside

pub returns-clause-ends : goal.returns-clause-ends
returns-clause-ends c =
    rw (← c.self.view_is)
    (λ _. closes c.self.inside.syntax c.self.inside.phase c.in-Some.last c.args.c c.self.inside.name c.self.inside.pairs (search rules) (rw c.in-Some.is at c.closed.ensures) (search rules))
