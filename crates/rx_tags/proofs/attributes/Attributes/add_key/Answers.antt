use Rattle.std.proofs.Common.{arith}
use Rattle.rx_tags.proofs.Pieces.{key_added}
use Rattle.rx_tags.proofs.attributes.Attributes.add_key.Goals as goal

pub invariant_of-self-2 : goal.invariant_of-self-2
invariant_of-self-2 c = (key_added c.self.inside.text.items c.push_char.new.text.items _ c.push.new.self.items _ _ _ c.len-end.result c.len-self-inside.result c.args.c c.self.invariant c.ranges.c.0 c.in_ok-push_char.ensures.ok (rw c.if-is_err.ensures.negation at c.push.ensures.items) (omega (arith, c.len-end.ensures, c.self.inside.text.ok.0)) (omega (arith, c.len-self-inside.ensures, c.push_char.new.text.ok.0))).0

pub returns-clause-ok : goal.returns-clause-ok
returns-clause-ok c = rw (← c.self.view_is) (key_added c.self.inside.text.items c.push_char.new.text.items _ c.push.new.self.items _ _ _ c.len-end.result c.len-self-inside.result c.args.c c.self.invariant c.ranges.c.0 c.in_ok-push_char.ensures.ok (rw c.if-is_err.ensures.negation at c.push.ensures.items) (omega (arith, c.len-end.ensures, c.self.inside.text.ok.0)) (omega (arith, c.len-self-inside.ensures, c.push_char.new.text.ok.0))).1
