use Rattle.std.proofs.Common.{refl}
use Rattle.rx_walk.proofs.walks.Walk.new.Goals as goal

pub new-requires-2 : goal.new-requires-2
new-requires-2 c = record {
  setting = (record { syntax = c.args.syntax; limits = c.args.limits; context = c.args.context }, c.args.address);
  syntax_is = refl;
  limits_are = refl;
  known = c.in_ok-course.ensures;
}

pub returns : goal.returns
returns c = c.in_ok-reading.ensures (record { syntax = c.args.syntax; limits = c.args.limits; context = c.args.context }, c.args.address) refl refl c.in_ok-course.ensures
