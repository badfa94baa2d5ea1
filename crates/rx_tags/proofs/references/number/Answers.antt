use Rattle.std.proofs.Common.{◌∙◌}
use Rattle.rx_tags.proofs.NumberLemmas.{number_step}
use Rattle.rx_tags.proofs.references.number.Goals as goal

pub loop-digit-preserved : goal.loop-digit-preserved
loop-digit-preserved c =
    let s = number_step c.args.base c.loop-digit.number c.loop-digit.digit-index _ c.digit_value.result c.min-number.result c.args.digits.now c.requires.least c.loop-digit-test.true c.digit_value.ensures c.min-number.ensures in
    (s.0, c.loop-digit.invariant.1 ∙ s.1)
