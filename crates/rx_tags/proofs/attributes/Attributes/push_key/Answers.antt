use Rattle.std.proofs.Common.{ap, ◌∙◌, arith}
use Rattle.rx_tags.proofs.Pieces.{key_pushed}
use Rattle.rx_tags.proofs.attributes.Attributes.push_key.Goals as goal

pub invariant_of-self-2 : goal.invariant_of-self-2
invariant_of-self-2 c = (key_pushed _ c.push_char.new.text.items _ _ _ _ c.len-self-inside.result _ c.self.invariant c.ranges.c.0 c.in_ok-push_char.ensures.ok (omega (arith, c.len-self-inside.ensures, c.push_char.new.text.ok.0)) (ap (λ r. r.known) c.self.view_is ∙ c.requires.known) (ap (λ r. r.pending) c.self.view_is ∙ c.requires.pending)).0

pub returns-clause-ok : goal.returns-clause-ok
returns-clause-ok c = rw (← c.self.view_is) (key_pushed _ c.push_char.new.text.items _ _ _ _ c.len-self-inside.result _ c.self.invariant c.ranges.c.0 c.in_ok-push_char.ensures.ok (omega (arith, c.len-self-inside.ensures, c.push_char.new.text.ok.0)) (ap (λ r. r.known) c.self.view_is ∙ c.requires.known) (ap (λ r. r.pending) c.self.view_is ∙ c.requires.pending)).1
