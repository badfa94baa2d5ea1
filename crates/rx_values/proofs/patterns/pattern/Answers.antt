use Rattle.rx_rdfa.proofs.Common.{◌∙◌, ap, time_kind}
use Rattle.rx_values.proofs.PatternLemmas.{time_of_bytes}
use Rattle.rx_values.proofs.patterns.pattern.Goals as goal

pub returns : goal.returns
returns c = c.kind_of.ensures ∙ ap time_kind c.as_bytes.ensures.value ∙ time_of_bytes c.args.text.now c.utf8.text
