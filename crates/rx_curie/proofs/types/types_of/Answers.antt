use Rattle.rx_rdfa.proofs.Common.{rules, option_map, chars, Chars, tokens, ref_of}
use Rattle.rx_rdfa.specs.Readings.{read_term}
use Rattle.rx_names.specs.Views.{names_seen}
use Rattle.rx_curie.specs.Seen.{refs_seen}
use Rattle.rx_curie.proofs.TokenSteps.{token-step}
use Rattle.rx_curie.proofs.types.types_of.Goals as goal

pub loop-token-preserved : goal.loop-token-preserved
loop-token-preserved c = record {
  utf8 = search rules;
  read = λ line stands. token-step (λ (token : Chars). option_map ref_of (read_term (names_seen c.args.names.now).context line token)) (refs_seen c.loop-token.types) (refs_seen c.push_type.new.types) _
      (tokens (chars c.loop-token.rest.now)) (tokens (chars c.in-Some.behind.now)) (chars c.in-Some.token.now) (c.loop-token.invariant.read line stands) c.in-Some.ensures.token
      (c.in_ok-push_type.ensures line stands);
}
