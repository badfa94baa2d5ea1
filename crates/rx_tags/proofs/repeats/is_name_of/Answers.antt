use Rattle.std.proofs.Common.{arith}
use Rattle.rx_tags.proofs.RepeatLemmas.{fit_at}
use Rattle.rx_tags.proofs.repeats.is_name_of.Goals as goal

pub text_between-requires-clause-rises : goal.text_between-requires-clause-rises
text_between-requires-clause-rises c = let f = fit_at _ _ c.args.rows.now c.loop-row.row-index c.requires c.loop-row-test.true in f.rises

pub text_between-requires-clause-within : goal.text_between-requires-clause-within
text_between-requires-clause-within c = let f = fit_at _ _ c.args.rows.now c.loop-row.row-index c.requires c.loop-row-test.true in omega (arith, f.apart, f.on, f.within)

pub text_between-requires-clause-utf8 : goal.text_between-requires-clause-utf8
text_between-requires-clause-utf8 c = let f = fit_at _ _ c.args.rows.now c.loop-row.row-index c.requires c.loop-row-test.true in f.name
