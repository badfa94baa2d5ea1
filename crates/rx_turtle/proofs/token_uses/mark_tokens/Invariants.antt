use Rattle.rx_turtle.proofs.Common.{◌≡◌, token_seen, iris_of_shown, WritableShown}
use Rattle.rx_turtle.proofs.UseLemmas.{Looked}
use Rattle.rx_turtle.proofs.token_uses.mark_tokens.Given as goal

abbrev pub invariant-loop-i : goal.invariant-loop-i
invariant-loop-i l = Looked token_seen WritableShown iris_of_shown l.fn.shorts l.fn.marks l.marks l.tokens l.i × (l.shorts ≡ l.fn.shorts)
