use Rattle.rx_model.proofs.Common.{◌≡◌, ◌+◌, take, map, rename, triples_seen}
use Rattle.rx_quads.proofs.raising.raised_list.Given as goal

abbrev pub invariant-loop-i : goal.invariant-loop-i
invariant-loop-i l = triples_seen l.list ≡ map (rename (λ b. l.first + b)) (triples_seen (take l.i l.graph))
