use Rattle.rx_shapes.proofs.Common.{◌∙◌, ap, sym, subst, arith, Settled, reach_all}
use Rattle.rx_shapes.proofs.ChainLemmas.{settling_start, settling_turn, settling_few, settling_end}
use Rattle.rx_shapes.proofs.chains.settle.Goals as goal

pub loop-done-init : goal.loop-done-init
loop-done-init c = settling_start c.args.links.now c.in_ok-sources.sources c.in_ok-reached.reached _ c.in_ok-sources.ensures c.in_ok-reached.ensures
    (c.in_ok-add_all.ensures ∙ ap (reach_all c.in_ok-reached.reached) c.row.ensures)

pub loop-done-smaller : goal.loop-done-smaller
loop-done-smaller c =
    let few = settling_few c.args.links.now c.loop-done.reached c.loop-done.done c.loop-done.invariant in
    omega (arith, few, c.loop-done-test.true, c.len.ensures)

pub loop-done-preserved : goal.loop-done-preserved
loop-done-preserved c = settling_turn c.args.links.now c.in_ok-sources.sources c.loop-done.reached _ c.loop-done.done c.at.result c.in_ok-sources.ensures c.at.ensures
    (c.in_ok-add_all-2.ensures ∙ ap (reach_all c.loop-done.reached) c.row-in-loop-done.ensures) c.loop-done.invariant

pub returns : goal.returns
returns c = subst (Settled c.args.links.now) (sym c.into_marks.ensures) (settling_end c.args.links.now c.loop-done.reached c.loop-done.done (omega (arith, c.loop-done-test.false, c.len.ensures)) c.loop-done.invariant)
