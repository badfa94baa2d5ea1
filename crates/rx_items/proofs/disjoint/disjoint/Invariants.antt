use Rattle.std.proofs.Common.{◌≡◌, ◌++◌, drop}
use Rattle.rx_items.specs.Disjoint.{unshared}
use Rattle.rx_items.proofs.disjoint.disjoint.Given as goal

abbrev pub invariant-loop-run : goal.invariant-loop-run
invariant-loop-run l = l.list.items ++ unshared l.end (drop l.run-index l.runs) ≡ unshared 0 l.runs
