use Rattle.std.proofs.Common.{arith}
use Rattle.rx_eval.proofs.DrawLemmas.{one_type, type_room, all_drawn, some_types, on_err}
use Rattle.rx_eval.proofs.drawing.draw_types.Goals as goal

pub draw_ref-requires : goal.draw_ref-requires
draw_ref-requires c = type_room _ c.loop-i.after c.loop-i.i _ c.args.types.now c.args.labels.now c.args.next c.at.ensures.node c.loop-i.invariant

pub loop-i-preserved : goal.loop-i-preserved
loop-i-preserved c =
    one_type _ _ c.loop-i.after _ c.loop-i.i _ c.args.types.now c.args.labels.now c.args.next c.at.ensures.node c.loop-i.invariant c.in_ok-after.ensures.ok

pub returns-clause-ok : goal.returns-clause-ok
returns-clause-ok c = all_drawn _ c.loop-i.after c.loop-i.i c.args.types.now c.args.labels.now c.args.next (omega (arith, c.loop-i-test.false, c.len-i-end.ensures)) c.loop-i.invariant

pub returns-in_err-after-clause-err : goal.returns-in_err-after-clause-err
returns-in_err-after-clause-err c =
    on_err c.from_residual.result (some_types c.args.labels.now _ _ c.args.next c.loop-i.after c.loop-i.i c.args.types.now c.loop-i.invariant c.in_err-after.ensures.err)
