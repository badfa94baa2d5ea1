use Rattle.rx_terms.proofs.Common.{◌∙◌, arith, sym, untrue}
use Rattle.rx_tags.proofs.RepeatLemmas.{alone, fit_at, two_apart}
use Rattle.rx_tags.proofs.repeats.are_apart.Goals as goal

pub returns-then-rows-lt2 : goal.returns-then-rows-lt2
returns-then-rows-lt2 c = λ _. alone c.args.text.now c.args.rows.now c.if-rows-lt2.true

pub text_between-other-requires-clause-utf8 : goal.text_between-other-requires-clause-utf8
text_between-other-requires-clause-utf8 c = let f = fit_at _ _ c.args.rows.now 1 c.requires (omega (arith, c.if-rows-lt2.false)) in f.name

pub returns : goal.returns
returns c =
    λ h. two_apart c.args.text.now _ c.args.rows.now c.requires c.if-rows-lt2.false c.if-rows-gt2.false
    (sym (rw (c.text_between-name.ensures, c.text_between-other.ensures) at c.is_same.ensures) ∙ untrue c.is_same.result h)
