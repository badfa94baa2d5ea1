use Rattle.std.proofs.Common.{arith}
use Rattle.rx_tags.proofs.Pieces.{begun}
use Rattle.rx_tags.proofs.attributes.Attributes.begin_run.Goals as goal

pub invariant_of-self-2 : goal.invariant_of-self-2
invariant_of-self-2 c = (begun c.self.inside.text.items _ _ _ _ _ c.len-end.result _ c.self.invariant c.ranges.c.0 c.in_ok-push_char.ensures.ok (omega (arith, c.len-end.ensures, c.self.inside.text.ok.0))).0

pub returns-clause-ok : goal.returns-clause-ok
returns-clause-ok c = rw (← c.self.view_is) (begun c.self.inside.text.items _ _ _ _ _ c.len-end.result _ c.self.invariant c.ranges.c.0 c.in_ok-push_char.ensures.ok (omega (arith, c.len-end.ensures, c.self.inside.text.ok.0))).1
