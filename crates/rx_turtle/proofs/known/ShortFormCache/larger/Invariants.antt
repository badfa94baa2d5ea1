use Rattle.rx_terms.proofs.Common.{ℕ, Option, Chars}
use Rattle.rx_turtle.specs.Known.{AreEntries}
use Rattle.rx_turtle.proofs.known.ShortFormCache.larger.Given as goal

abbrev pub invariant-loop-i : goal.invariant-loop-i
invariant-loop-i l = (found : Chars → Option ℕ) → AreEntries found l.self → AreEntries found l.larger
