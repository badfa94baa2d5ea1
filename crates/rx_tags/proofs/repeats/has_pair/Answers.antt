use Rattle.std.proofs.Common.{◌∙◌, sym, ◌+◌, arith}
use Rattle.rx_tags.proofs.RepeatLemmas.{fit_at, fit_drop, all_behind, pair_found, pair_passed}
use Rattle.rx_tags.proofs.repeats.has_pair.Goals as goal

pub text_between-name-requires-clause-rises : goal.text_between-name-requires-clause-rises
text_between-name-requires-clause-rises c = let f = fit_at _ _ c.args.rows.now c.loop-i.i c.requires c.loop-i-test.true in f.rises

pub text_between-name-requires-clause-within : goal.text_between-name-requires-clause-within
text_between-name-requires-clause-within c = let f = fit_at _ _ c.args.rows.now c.loop-i.i c.requires c.loop-i-test.true in omega (arith, f.apart, f.on, f.within)

pub text_between-name-requires-clause-utf8 : goal.text_between-name-requires-clause-utf8
text_between-name-requires-clause-utf8 c = let f = fit_at _ _ c.args.rows.now c.loop-i.i c.requires c.loop-i-test.true in f.name

pub is_name_of-requires : goal.is_name_of-requires
is_name_of-requires c = rw (all_behind c.args.rows.now (c.loop-i.i + 1)) (fit_drop c.args.text.now _ c.args.rows.now (c.loop-i.i + 1) c.requires)

pub returns-then-is_name_of : goal.returns-then-is_name_of
returns-then-is_name_of c =
    let told = rw (all_behind c.args.rows.now (c.loop-i.i + 1), c.text_between-name.ensures) at c.is_name_of.ensures in
    sym (c.loop-i.invariant ∙ pair_found c.args.text.now _ c.args.rows.now c.loop-i.i c.requires c.loop-i-test.true (sym told ∙ c.if-is_name_of.true))

pub loop-i-preserved : goal.loop-i-preserved
loop-i-preserved c =
    let told = rw (all_behind c.args.rows.now (c.loop-i.i + 1), c.text_between-name.ensures) at c.is_name_of.ensures in
    c.loop-i.invariant ∙ pair_passed c.args.text.now _ c.args.rows.now c.loop-i.i c.requires c.loop-i-test.true (sym told ∙ c.if-is_name_of.false)
