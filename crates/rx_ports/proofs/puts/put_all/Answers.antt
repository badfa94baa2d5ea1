use Rattle.std.proofs.Common.{arith, ◌≡◌, ◌++◌, ◌+◌, ◌-◌, ◌∙◌, List, ℕ, take, drop, length, length-drop, append_assoc, take-add, refl}
use Rattle.std.proofs.lemmas.List.{take_all}
use Rattle.rx_ports.proofs.MoveLemmas.{moves_then}
use Rattle.rx_ports.proofs.puts.put_all.Goals as goal

-- a slice to its end is what is left of it
whole_rest : (at : ℕ) (piece : List ℕ) → take (length piece - at) (drop at piece) ≡ drop at piece
whole_rest at piece = take_all (length piece - at) (drop at piece) (omega (arith, length-drop at piece))

further : (at n : ℕ) (piece x y z : List ℕ) → y ≡ x ++ take at piece → z ≡ y ++ take n (take (length piece - at) (drop at piece)) → z ≡ x ++ take (at + n) piece
further at n piece x y z p q = rw (q, p, take-add at n piece, append_assoc, whole_rest at piece) refl

pub loop-at-preserved : goal.loop-at-preserved
loop-at-preserved g c = record {
  within = omega (arith, c.in-Ok.ensures.bound.0, length-drop c.loop-at.at c.args.piece.now);
  grown = moves_then _ (λ x y z p q. further c.loop-at.at c.in-Ok.count c.args.piece.now x y z p q) c.loop-at.invariant.grown c.in-Ok.ensures.held;
  steady = c.in-Ok.ensures.steady ∙ c.loop-at.invariant.steady;
}

pub returns-in-Err-clause-err : goal.returns-in-Err-clause-err
returns-in-Err-clause-err g c =
    moves_then _ (λ x y z p q. (c.loop-at.at, c.loop-at-test.true, q ∙ p)) c.loop-at.invariant.grown c.in-Err.ensures.held

pub returns-in-Err-clause-later : goal.returns-in-Err-clause-later
returns-in-Err-clause-later g c = omega (arith, c.loop-at.invariant.steady, c.in-Err.ensures.later)

pub returns-in-Err-clause-cause : goal.returns-in-Err-clause-cause
returns-in-Err-clause-cause g c = omega (arith, c.loop-at.invariant.steady, c.in-Err.ensures.cause)
