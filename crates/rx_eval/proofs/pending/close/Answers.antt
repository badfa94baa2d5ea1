use Rattle.std.proofs.Common.{arith}
use Rattle.rx_eval.proofs.ReferringLemmas.{inside_closes, last_closes}
use Rattle.rx_eval.proofs.pending.close.Goals as goal

pub returns-then-last-gt0-clause-ok : goal.returns-then-last-gt0-clause-ok
returns-then-last-gt0-clause-ok c = inside_closes c.args.pending.now c.in-Some.last c.args.stack.now c.in-Some.is c.requires.kept c.if-last-gt0.true

pub returns-clause-ok : goal.returns-clause-ok
returns-clause-ok c =
    last_closes c.args.pending.now c.in-Some.last c.args.stack.now c.in-Some.is c.requires.kept c.replace.new.dest (omega (arith, c.if-last-gt0.false)) c.replace.ensures.after
