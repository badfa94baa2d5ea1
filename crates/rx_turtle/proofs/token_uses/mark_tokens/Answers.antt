use Rattle.rx_turtle.proofs.Common.{◌∙◌, arith, ap, refl, slice_get_read, token_seen, iris_of_shown, WritableShown, marked_all}
use Rattle.rx_turtle.proofs.UseLemmas.{looked_start, looked_more, looked_marks, fine_end}
use Rattle.rx_turtle.proofs.token_uses.mark_tokens.Goals as goal

pub loop-i-init : goal.loop-i-init
loop-i-init c = (looked_start token_seen WritableShown iris_of_shown _ _ _, refl)

pub loop-i-preserved : goal.loop-i-preserved
loop-i-preserved c = (
  looked_more token_seen WritableShown iris_of_shown _ _ _ _ _ _ c.index-tokens-i.result (slice_get_read c.args.tokens.now _ c.loop-i.i c.index-tokens-i.result refl c.loop-i-test.true c.index-tokens-i.is)
      (c.in_ok-mark_token.ensures.marks ∙ ap (λ z. marked_all z c.loop-i.marks (iris_of_shown (token_seen c.index-tokens-i.result))) c.loop-i.invariant.1)
      c.is_writable_token.ensures c.loop-i.invariant.0,
  c.mark_token.ensures.same ∙ c.loop-i.invariant.1,
)

pub returns-clause-marks : goal.returns-clause-marks
returns-clause-marks c = looked_marks token_seen WritableShown iris_of_shown _ _ _ _ _ (omega (arith, c.loop-i-test.false)) c.loop-i.invariant.0

pub returns-clause-writable : goal.returns-clause-writable
returns-clause-writable c = record { each = fine_end token_seen WritableShown _ _ (omega (arith, c.loop-i-test.false)) c.loop-i.invariant.0.fine }
