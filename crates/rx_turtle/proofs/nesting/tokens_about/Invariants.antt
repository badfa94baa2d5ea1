use Rattle.std.proofs.Common.{◌≡◌, take, []}
use Rattle.rx_turtle.proofs.RunLemmas.{Stated}
use Rattle.rx_turtle.proofs.nesting.tokens_about.Given as goal

abbrev pub invariant-loop-i : goal.invariant-loop-i
invariant-loop-i l = Stated l.source (take l.i l.subjects) l.tokens.items × (l.stack ≡ [])
