use Rattle.rx_refs.proofs.RuleLemmas.{dots-by-rules}
use Rattle.rx_refs.proofs.dots_by_rules.Goals as goal

pub returns : goal.returns
returns c = dots-by-rules
