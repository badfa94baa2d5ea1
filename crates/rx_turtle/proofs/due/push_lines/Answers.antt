use Rattle.std.proofs.Common.{◌-◌, arith, map}
use Rattle.rx_turtle.proofs.GroupLemmas.{lent_seen}
use Rattle.rx_turtle.proofs.DueLemmas.{tail_start, tail_turn, lines_pushed}
use Rattle.rx_turtle.proofs.due.push_lines.Goals as goal

pub loop-i-init : goal.loop-i-init
loop-i-init c = tail_start c.args.gap c.args.said.now c.count_before-i.result c.args.stack.now c.count_before-i.ensures

pub loop-i-preserved : goal.loop-i-preserved
loop-i-preserved c =
    tail_turn c.args.gap (map lent_seen c.args.said.now) c.loop-i.i (c.loop-i.i - 1) _ _ c.args.stack.now (omega (arith, c.loop-i-test.true)) c.in_ok-push_next.ensures c.loop-i.invariant

pub returns : goal.returns
returns c =
    lines_pushed c.args.gap (map lent_seen c.args.said.now) c.loop-i.i c.args.stack.now c.loop-i.stack c.push_first.new.stack (omega (arith, c.loop-i-test.false)) c.in_ok-push_first.ensures c.loop-i.invariant
