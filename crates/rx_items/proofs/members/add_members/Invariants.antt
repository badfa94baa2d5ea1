use Rattle.rx_items.proofs.Common.{◌-◌, ◌≤◌, AddsMembers}
use Rattle.rx_items.proofs.members.add_members.Given as goal

abbrev pub invariant-loop-place : goal.invariant-loop-place
invariant-loop-place l = record {
  low : l.from ≤ l.place;
  bound : l.place ≤ 18446744073709551615;
  adds : AddsMembers l.rows l.scope l.from l.place l.place l.initial.members.items l.members.items;
}

abbrev pub decreases-loop-place : goal.decreases-loop-place
decreases-loop-place l = l.end - l.place
