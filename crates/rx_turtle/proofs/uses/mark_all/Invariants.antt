use Rattle.rx_turtle.proofs.Common.{◌≡◌, None, triple_seen, WritableTriple, iris_of}
use Rattle.rx_turtle.proofs.UseLemmas.{Looked}
use Rattle.rx_turtle.proofs.uses.mark_all.Given as goal

abbrev pub invariant-loop-i : goal.invariant-loop-i
invariant-loop-i l = Looked triple_seen (WritableTriple None) iris_of l.fn.shorts l.fn.marks l.marks l.graph l.i × (l.shorts ≡ l.fn.shorts)
