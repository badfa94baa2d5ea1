use Rattle.rx_turtle.proofs.Common.{◌∙◌, refl, sym, map, slice_get_read, token_seen, shown_text}
use Rattle.rx_turtle.proofs.GroupLemmas.{seen_at}
use Rattle.rx_turtle.proofs.LineLemmas.{joined, joined_failed}
use Rattle.rx_turtle.proofs.token_texts.push_tokens.Goals as goal

pub returns-then-has_failed : goal.returns-then-has_failed
returns-then-has_failed g c = joined_failed (shown_text c.args.shorts.now) (map token_seen c.args.tokens.now) c.loop-i.i (sym c.has_failed.ensures ∙ c.if-has_failed.true) c.loop-i.invariant

pub loop-i-preserved : goal.loop-i-preserved
loop-i-preserved g c =
    joined (shown_text c.args.shorts.now) (map token_seen c.args.tokens.now) c.loop-i.i (token_seen c.index-tokens-i.result)
    (seen_at token_seen c.args.tokens.now c.loop-i.i c.index-tokens-i.result (slice_get_read c.args.tokens.now _ c.loop-i.i c.index-tokens-i.result refl c.loop-i-test.true c.index-tokens-i.is))
    c.loop-i.invariant c.push_token.ensures
