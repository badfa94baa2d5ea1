use Rattle.rx_grammar.proofs.Common.{◌∙◌, ap, ◌||◌, arith, same}
use Rattle.rx_tags.specs.Repeats.{has_text}
use Rattle.rx_tags.proofs.RepeatLemmas.{fit_at, kept_fit, names_turn, new_turn, old_turn}
use Rattle.rx_tags.proofs.repeats.first_rows.Goals as goal

pub text_between-requires-clause-rises : goal.text_between-requires-clause-rises
text_between-requires-clause-rises c = let f = fit_at _ _ c.args.rows.now c.loop-row.row-index c.requires c.loop-row-test.true in f.rises

pub text_between-requires-clause-within : goal.text_between-requires-clause-within
text_between-requires-clause-within c = let f = fit_at _ _ c.args.rows.now c.loop-row.row-index c.requires c.loop-row-test.true in omega (arith, f.apart, f.on, f.within)

pub text_between-requires-clause-utf8 : goal.text_between-requires-clause-utf8
text_between-requires-clause-utf8 c = let f = fit_at _ _ c.args.rows.now c.loop-row.row-index c.requires c.loop-row-test.true in f.name

pub loop-row-preserved-then-not-branch : goal.loop-row-preserved-then-not-branch
loop-row-preserved-then-not-branch c = record {
  read = old_turn c.args.text.now _ c.args.rows.now c.loop-row.kept.items c.loop-row.row-index c.requires c.loop-row-test.true c.loop-row.invariant.read c.in_ok-add_name.field-0
      (has_text c.loop-row.names c.text_between.result.now) (ap (has_text c.loop-row.names) c.text_between.ensures ∙ c.loop-row.invariant.names _) c.in_ok-add_name.ensures.is_new c.if-not-branch.true;
  fit = c.loop-row.invariant.fit;
  names = λ name. names_turn c.args.text.now c.args.rows.now c.loop-row.row-index name (has_text c.loop-row.names name) _ c.loop-row-test.true (c.loop-row.invariant.names name)
      (c.in_ok-add_name.ensures.added name ∙ ap (λ bytes. same bytes name || has_text c.loop-row.names name) c.text_between.ensures);
}

pub loop-row-preserved : goal.loop-row-preserved
loop-row-preserved c =
    let pushed = rw c.if-is_err.ensures.negation at c.push.ensures.items in
    record {
      read = rw pushed (new_turn c.args.text.now _ c.args.rows.now c.loop-row.kept.items c.loop-row.row-index c.requires c.loop-row-test.true c.loop-row.invariant.read c.in_ok-add_name.field-0
          (has_text c.loop-row.names c.text_between.result.now) (ap (has_text c.loop-row.names) c.text_between.ensures ∙ c.loop-row.invariant.names _) c.in_ok-add_name.ensures.is_new c.if-not-branch.false);
      fit = λ limit fit. rw pushed (kept_fit c.args.text.now limit c.args.rows.now c.loop-row.kept.items c.loop-row.row-index c.loop-row-test.true fit (c.loop-row.invariant.fit limit fit));
      names = λ name. names_turn c.args.text.now c.args.rows.now c.loop-row.row-index name (has_text c.loop-row.names name) _ c.loop-row-test.true (c.loop-row.invariant.names name)
          (c.in_ok-add_name.ensures.added name ∙ ap (λ bytes. same bytes name || has_text c.loop-row.names name) c.text_between.ensures);
    }
