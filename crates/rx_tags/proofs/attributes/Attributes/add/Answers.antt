use Rattle.std.proofs.Common.{arith}
use Rattle.rx_tags.proofs.Pieces.{added}
use Rattle.rx_tags.proofs.attributes.Attributes.add.Goals as goal

pub invariant_of-self-2 : goal.invariant_of-self-2
invariant_of-self-2 c = (added _ _ _ _ _ _ _ c.self.invariant (rw c.if-is_err.ensures.negation at c.push.ensures.items) (omega (arith, c.len-end.ensures, c.self.inside.text.ok.0))).0

pub returns-clause-ok : goal.returns-clause-ok
returns-clause-ok c = rw (← c.self.view_is) (added _ _ _ _ _ _ _ c.self.invariant (rw c.if-is_err.ensures.negation at c.push.ensures.items) (omega (arith, c.len-end.ensures, c.self.inside.text.ok.0))).1
