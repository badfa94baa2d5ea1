use Rattle.rx_unique.specs.Hashes.{hash_of}
use Rattle.rx_unique.proofs.SearchLemmas.{Sought, reach}
use Rattle.rx_unique.proofs.unique.Unique.find.Given as goal

abbrev pub invariant-loop-next : goal.invariant-loop-next
invariant-loop-next g l = Sought (g.Q.Equivalent.equivalent l.key) (hash_of (g.Q.Hash.hash_input l.key)) l.self-inside.keys.items l.self-inside.others.places.items l.self-inside.others.numbers l.next

abbrev pub decreases-loop-next : goal.decreases-loop-next
decreases-loop-next g l = reach l.next
