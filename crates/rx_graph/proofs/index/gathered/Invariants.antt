use Rattle.std.proofs.Common.{◌≡◌, ℕ, [], flat_map, get_or, take}
use Rattle.rx_graph.proofs.index.gathered.Given as goal

abbrev pub invariant-loop-i : goal.invariant-loop-i
invariant-loop-i l = l.places.items ≡ flat_map (λ (a : ℕ). get_or l.own a []) (take l.i l.reached)
