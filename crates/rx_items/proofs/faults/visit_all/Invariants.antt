use Rattle.rx_items.proofs.Common.{◌≡◌, [], List, take, Chars, flat_map, Placed, HoldsRows, NoFault, top_visits}
use Rattle.rx_items.proofs.faults.visit_all.Given as goal

abbrev pub invariant-loop-place : goal.invariant-loop-place
invariant-loop-place l = record {
  path : l.trail.path.items ≡ [];
  did : (rows : List Placed) (base : Chars) → HoldsRows l.kept rows base → NoFault 0 (flat_map (top_visits rows base) (take l.place rows)) l.trail.visits;
}
