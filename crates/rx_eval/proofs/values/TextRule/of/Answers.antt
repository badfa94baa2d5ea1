use Rattle.rx_curie.specs.Seen.{facts_seen}
use Rattle.rx_eval.proofs.TextLemmas.{ok_text_rule}
use Rattle.rx_eval.proofs.values.TextRule.of.Goals as goal

pub returns : goal.returns
returns c = ok_text_rule (facts_seen c.args.facts.now) c.text_rule.result c.text_rule.ensures
