use Rattle.rx_refs.proofs.Common.{◌∙◌, sym, arith, parent_steps}
use Rattle.rx_refs.proofs.UpLemmas.{count-next, count-end}
use Rattle.rx_refs.proofs.plain.count_climbs.Goals as goal

pub loop-count-preserved : goal.loop-count-preserved
loop-count-preserved c =
    let i = c.loop-count.invariant in
    let n = count-next c.args.text.now c.behind.result.now c.loop-count.count c.loop-count.at (parent_steps c.args.text.now) c.behind.ensures (sym c.loop-count-test.true ∙ c.is_climb.ensures) i.fits i.same in
    record { fits = n.0; less = omega (arith, i.less); same = n.1 }

pub returns-clause-exact : goal.returns-clause-exact
returns-clause-exact c =
    let i = c.loop-count.invariant in
    count-end c.args.text.now c.behind.result.now c.loop-count.count c.loop-count.at (parent_steps c.args.text.now) c.behind.ensures (sym c.loop-count-test.false ∙ c.is_climb.ensures) i.same
