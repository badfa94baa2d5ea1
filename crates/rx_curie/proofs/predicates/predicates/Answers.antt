use Rattle.rx_rdfa.proofs.Common.{rules, chars, tokens, predicate}
use Rattle.rx_names.specs.Views.{names_seen}
use Rattle.rx_curie.proofs.TokenSteps.{token-step}
use Rattle.rx_curie.proofs.predicates.predicates.Goals as goal

pub loop-token-preserved : goal.loop-token-preserved
loop-token-preserved c = record {
  utf8 = search rules;
  read = λ line stands. token-step (predicate (names_seen c.args.names.now).context line) c.loop-token.iris c.push_predicate.new.iris _ (tokens (chars c.loop-token.rest.now))
      (tokens (chars c.in-Some.behind.now)) (chars c.in-Some.token.now) (c.loop-token.invariant.read line stands) c.in-Some.ensures.token (c.in_ok-push_predicate.ensures line stands);
}
