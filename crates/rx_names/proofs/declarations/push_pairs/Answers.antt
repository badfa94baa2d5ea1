use Rattle.rx_terms.proofs.Common.{rules, chars, tokens}
use Rattle.rx_names.proofs.DeclarationLemmas.{waits, pairs_up}
use Rattle.rx_names.proofs.declarations.push_pairs.Goals as goal

pub loop-token-preserved : goal.loop-token-preserved
loop-token-preserved c = record {
  utf8 = search rules;
  rows = waits c.loop-token.rows _ c.loop-token.waiting c.split_last-waiting.result (tokens (chars c.loop-token.rest.now)) (chars c.in-Some.token.now) (tokens (chars c.in-Some.behind.now)) c.loop-token.invariant.rows c.in-None.is c.in-Some.ensures.token c.split_last-waiting.ensures;
}

pub loop-token-preserved-in_ok-push_mapping-in-Some-waiting : goal.loop-token-preserved-in_ok-push_mapping-in-Some-waiting
loop-token-preserved-in_ok-push_mapping-in-Some-waiting c = record {
  utf8 = search rules;
  rows = pairs_up c.loop-token.rows c.push_mapping.new.rows _ c.loop-token.waiting c.in-Some-waiting.name (tokens (chars c.loop-token.rest.now)) (chars c.in-Some.token.now) (tokens (chars c.in-Some.behind.now)) c.loop-token.invariant.rows c.in-Some-waiting.is c.in-Some.ensures.token c.in_ok-push_mapping-in-Some-waiting.ensures.ok;
}
