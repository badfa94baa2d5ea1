use Rattle.rx_turtle.proofs.Common.{◌≡◌, ◌++◌, map, tail_at}
use Rattle.rx_turtle.proofs.GroupLemmas.{lent_seen}
use Rattle.rx_turtle.proofs.due.push_lines.Given as goal

abbrev pub invariant-loop-i : goal.invariant-loop-i
invariant-loop-i l = l.stack ≡ tail_at l.gap l.i (map lent_seen l.said) ++ l.fn.stack
