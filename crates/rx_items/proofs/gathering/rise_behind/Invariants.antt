use Rattle.rx_items.proofs.Common.{◌≡◌, drop, rise_behind}
use Rattle.rx_items.proofs.gathering.rise_behind.Given as goal

abbrev pub invariant-loop-member : goal.invariant-loop-member
invariant-loop-member l = rise_behind l.place l.before (drop l.member-index l.list) ≡ rise_behind l.place l.first l.list
