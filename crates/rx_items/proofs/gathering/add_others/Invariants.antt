use Rattle.rx_items.proofs.Common.{◌≡◌, ◌++◌, take, filter, is_other}
use Rattle.rx_items.proofs.gathering.add_others.Given as goal

abbrev pub invariant-loop-member : goal.invariant-loop-member
invariant-loop-member l = l.list.items ≡ l.initial.list.items ++ filter (is_other l.place) (take l.member-index l.members)
