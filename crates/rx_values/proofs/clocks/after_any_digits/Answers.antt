use Rattle.std.proofs.Common.{sym, ◌∙◌}
use Rattle.rx_values.proofs.ClockLemmas.{any_fraction}
use Rattle.rx_values.proofs.clocks.after_any_digits.Goals as goal

pub returns : goal.returns
returns c = c.after_some_digits.ensures ∙ sym (any_fraction c.args.text.now)
