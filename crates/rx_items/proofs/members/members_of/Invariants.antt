use Rattle.rx_items.proofs.WalkLemmas.{Done}
use Rattle.rx_items.proofs.members.members_of.Given as goal

abbrev pub invariant-loop-place : goal.invariant-loop-place
invariant-loop-place l = Done l.rows l.place l.members.items
