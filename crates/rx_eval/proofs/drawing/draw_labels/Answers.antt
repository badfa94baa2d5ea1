use Rattle.rx_eval.proofs.DrawLemmas.{five_room, five_ok, five_some, after_drawn, none_drawn, on_err}
use Rattle.rx_eval.proofs.drawing.draw_labels.Goals as goal

pub draw_all_types-requires : goal.draw_all_types-requires
draw_all_types-requires c =
    five_room _ c.in_ok-next.ensures.ok c.in_ok-next-2.ensures.ok c.in_ok-next-3.ensures.ok c.in_ok-next-4.ensures.ok c.requires

pub returns-clause-ok : goal.returns-clause-ok
returns-clause-ok c =
    five_ok _ c.in_ok-next.ensures.ok c.in_ok-next-2.ensures.ok c.in_ok-next-3.ensures.ok c.in_ok-next-4.ensures.ok _ c.draw_all_types.result c.draw_all_types.ensures.ok

pub returns-in_err-next-3-clause-err : goal.returns-in_err-next-3-clause-err
returns-in_err-next-3-clause-err c =
    on_err c.from_residual-in_err-next-3.result
    (after_drawn _ _ _ c.args.next _ _ _ c.in_ok-next.ensures.ok (after_drawn _ _ _ _ _ _ _ c.in_ok-next-2.ensures.ok (none_drawn _ _ _ _ c.in_err-next-3.ensures.err)))

pub returns-in_err-next-4-clause-err : goal.returns-in_err-next-4-clause-err
returns-in_err-next-4-clause-err c =
    on_err c.from_residual-in_err-next-4.result
    (after_drawn _ _ _ c.args.next _ _ _ c.in_ok-next.ensures.ok
    (after_drawn _ _ _ _ _ _ _ c.in_ok-next-2.ensures.ok (after_drawn _ _ _ _ _ _ _ c.in_ok-next-3.ensures.ok (none_drawn _ _ _ _ c.in_err-next-4.ensures.err))))

pub returns-clause-err : goal.returns-clause-err
returns-clause-err c =
    five_some _ c.in_ok-next.ensures.ok c.in_ok-next-2.ensures.ok c.in_ok-next-3.ensures.ok c.in_ok-next-4.ensures.ok _ c.draw_all_types.result c.draw_all_types.ensures.err
