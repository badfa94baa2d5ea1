use Rattle.std.proofs.Common.{sym, arith}
use Rattle.rx_turtle.proofs.GroupLemmas.{put_outside}
use Rattle.rx_turtle.proofs.groups.Groups.put_within.Goals as goal

pub returns-then-place-len : goal.returns-then-place-len
returns-then-place-len c = sym (put_outside c.args.self.now c.args.place _ (omega (arith, c.if-place-len.true, c.len.ensures)))
