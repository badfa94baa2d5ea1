use Rattle.rx_terms.proofs.Common.{◌∙◌, sym, rules, chars, tokens}
use Rattle.rx_names.specs.Views.{names_seen}
use Rattle.rx_curie.proofs.TokenSteps.{is-kept}
use Rattle.rx_curie.proofs.predicates.kept_predicates.Goals as goal

pub loop-token-preserved-in_ok-push_predicate : goal.loop-token-preserved-in_ok-push_predicate
loop-token-preserved-in_ok-push_predicate c = record {
  utf8 = search rules;
  none = λ e. absurd (cc e);
  read = λ line stands. is-kept (names_seen c.args.names.now).context line c.loop-token.is_present c.loop-token.iris c.push_predicate.new.iris (tokens (chars c.loop-token.rest.now))
      (tokens (chars c.in-Some.behind.now)) (chars c.in-Some.token.now) _ (c.loop-token.invariant.read line stands) c.loop-token.invariant.none c.in-Some.ensures.token
      (sym (c.stays_beside_property.ensures line stands) ∙ c.if-stays_beside_property.true) (c.in_ok-push_predicate.ensures line stands);
}
