use Rattle.std.proofs.Common.{refl}
use Rattle.rx_walk.proofs.Accepted.{accepts_none}
use Rattle.rx_walk.proofs.checks.Check.new.Goals as goal

pub new-requires-2 : goal.new-requires-2
new-requires-2 c = record {
  setting = record { syntax = c.args.syntax; limits = c.args.limits; context = c.args.context };
  syntax_is = refl;
  limits_are = refl;
  known = accepts_none c.args.context c.in_ok-names.names c.in_ok-names.ensures.none c.in_ok-names.ensures.line;
}

pub returns : goal.returns
returns c =
    c.in_ok-reading.ensures (record { syntax = c.args.syntax; limits = c.args.limits; context = c.args.context }) refl refl
    (accepts_none c.args.context c.in_ok-names.names c.in_ok-names.ensures.none c.in_ok-names.ensures.line)
