use Rattle.rx_tags.proofs.Pieces.{with_char}
use Rattle.rx_tags.proofs.tag_name.TagName.push.Goals as goal

pub invariant_of-self-2 : goal.invariant_of-self-2
invariant_of-self-2 c = rw c.in_ok-push_char.ensures.ok (with_char c.self.inside.text.items c.args.c c.self.invariant c.ranges.c.0).0

pub returns-clause-ok : goal.returns-clause-ok
returns-clause-ok c = rw (← c.self.view_is, c.in_ok-push_char.ensures.ok) (with_char c.self.inside.text.items c.args.c c.self.invariant c.ranges.c.0).1
