use Rattle.rx_terms.proofs.Common.{◌∙◌, ap, sym, arith, true, false, get_or, take, length-set}
use Rattle.rx_tags.specs.Repeats.{mark_of}
use Rattle.rx_tags.proofs.RepeatLemmas.{fit_at, apart_turn}
use Rattle.rx_tags.proofs.MarkLemmas.{marks_turn, unmarked}
use Rattle.rx_tags.proofs.repeats.are_marked_apart.Goals as goal

pub text_between-requires-clause-rises : goal.text_between-requires-clause-rises
text_between-requires-clause-rises c = let f = fit_at _ _ c.args.rows.now c.loop-row.row-index c.requires c.loop-row-test.true in f.rises

pub text_between-requires-clause-within : goal.text_between-requires-clause-within
text_between-requires-clause-within c = let f = fit_at _ _ c.args.rows.now c.loop-row.row-index c.requires c.loop-row-test.true in omega (arith, f.apart, f.on, f.within)

pub text_between-requires-clause-utf8 : goal.text_between-requires-clause-utf8
text_between-requires-clause-utf8 c = let f = fit_at _ _ c.args.rows.now c.loop-row.row-index c.requires c.loop-row-test.true in f.name

pub loop-row-preserved : goal.loop-row-preserved
loop-row-preserved c =
    let is = c.mark_of-mark.ensures.mark ∙ ap mark_of c.text_between.ensures in
    let unseen = unmarked c.args.text.now (take c.loop-row.row-index c.args.rows.now) c.loop-row.marks _ c.loop-row.invariant.marked (ap (λ m. get_or c.loop-row.marks m false) (sym is) ∙ c.if-marks-mark.false) in
    record {
      apart = apart_turn c.args.text.now _ c.args.rows.now c.loop-row.row-index c.requires c.loop-row-test.true c.loop-row.invariant.apart unseen;
      marked = marks_turn c.args.text.now c.args.rows.now c.loop-row.row-index c.mark_of-mark.result c.loop-row.marks c.loop-row-test.true (omega (arith, c.mark_of-mark.ensures.fits, c.loop-row.invariant.size)) c.loop-row.invariant.marked is;
      size = length-set c.loop-row.marks c.mark_of-mark.result true ∙ c.loop-row.invariant.size;
    }
