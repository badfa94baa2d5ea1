use Rattle.rx_tags.proofs.Pieces.{gone_on}
use Rattle.rx_tags.proofs.attributes.Attributes.push_run.Goals as goal

pub invariant_of-self-2 : goal.invariant_of-self-2
invariant_of-self-2 c = (gone_on _ _ _ _ _ _ _ c.self.invariant c.ranges.c.0 c.in_ok-push_char.ensures.ok).0

pub returns-clause-ok : goal.returns-clause-ok
returns-clause-ok c = rw (← c.self.view_is) (gone_on _ _ _ _ _ _ _ c.self.invariant c.ranges.c.0 c.in_ok-push_char.ensures.ok).1
