use Rattle.rx_many.proofs.NameLemmas.{NamesStand}
use Rattle.rx_many.proofs.names.shared_names.Given as goal

abbrev pub invariant-loop-i : goal.invariant-loop-i
invariant-loop-i l = NamesStand l.names.seen l.names.shared l.pages l.i
