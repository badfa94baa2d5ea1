use Rattle.rx_items.proofs.Common.{◌-◌, length, FirstBelow, Rises}
use Rattle.rx_items.proofs.members.before_from.Given as goal

abbrev pub invariant-loop-at : goal.invariant-loop-at
invariant-loop-at l = Rises l.rows l.members → FirstBelow l.rows l.members l.bound l.at

abbrev pub decreases-loop-at : goal.decreases-loop-at
decreases-loop-at l = length l.members - l.at
