use Rattle.rx_turtle.proofs.Common.{◌∙◌, None, arith, ap, refl, triple_seen, iris_of, WritableTriple, marked_all}
use Rattle.rx_turtle.proofs.UseLemmas.{looked_start, looked_more, looked_marks, fine_end}
use Rattle.rx_turtle.proofs.uses.mark_all.Goals as goal

pub loop-i-init : goal.loop-i-init
loop-i-init c = (looked_start triple_seen (WritableTriple None) iris_of _ _ _, refl)

pub loop-i-preserved : goal.loop-i-preserved
loop-i-preserved c = (
  looked_more triple_seen (WritableTriple None) iris_of _ _ _ _ _ _ c.at-triple.result.now c.at-triple.ensures
      (c.in_ok-mark_triple.ensures.marks ∙ ap (λ z. marked_all z c.loop-i.marks (iris_of (triple_seen c.at-triple.result.now))) c.loop-i.invariant.1)
      c.is_writable.ensures c.loop-i.invariant.0,
  c.mark_triple.ensures.same ∙ c.loop-i.invariant.1,
)

pub returns-clause-marks : goal.returns-clause-marks
returns-clause-marks c = looked_marks triple_seen (WritableTriple None) iris_of _ _ _ _ _ (omega (arith, c.loop-i-test.false, c.len-i-end.ensures.len)) c.loop-i.invariant.0

pub returns-clause-writable : goal.returns-clause-writable
returns-clause-writable c = record { parts = fine_end triple_seen (WritableTriple None) _ _ (omega (arith, c.loop-i-test.false, c.len-i-end.ensures.len)) c.loop-i.invariant.0.fine }
