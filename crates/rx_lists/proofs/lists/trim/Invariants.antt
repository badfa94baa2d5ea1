use Rattle.std.proofs.Common.{◌≡◌, vec_len}
use Rattle.rx_lists.specs.Owners.{trimmed_tail}
use Rattle.rx_lists.proofs.lists.trim.Given as goal

abbrev pub invariant-loop-owners : goal.invariant-loop-owners
invariant-loop-owners l = trimmed_tail l.owners.items ≡ trimmed_tail l.initial.owners.items

abbrev pub decreases-loop-owners : goal.decreases-loop-owners
decreases-loop-owners l = vec_len l.owners
