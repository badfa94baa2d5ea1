use Rattle.rx_items.proofs.Common.{◌≡◌, ◌+◌, ◌-◌, ◌*◌, ◌≤◌, ℕ, List, suc, take, length, Some, true, Chars, slice_get, Placed, is_item, Visit, visits_from, properties_in, IsElement, AllStand, row_places, HeldOnPath, NoFault, again, flat_map, steps_of, visits_in}
use Rattle.rx_items.proofs.faults.+pass.Given as goal

abbrev pub decreases-pass : goal.decreases-pass
decreases-pass l = 10 * (41 - length l.trail.now.path.items)

abbrev pub decreases-pass_times : goal.decreases-pass_times
decreases-pass_times l = 10 * (41 - length l.trail.now.path.items) + 1

abbrev pub decreases-pass_property : goal.decreases-pass_property
decreases-pass_property l = 10 * (41 - length l.trail.now.path.items) + 2

abbrev pub decreases-pass_each : goal.decreases-pass_each
decreases-pass_each l = 10 * (41 - length l.trail.now.path.items) + 3

abbrev pub decreases-pass_sorted : goal.decreases-pass_sorted
decreases-pass_sorted l = 10 * (41 - length l.trail.now.path.items) + 4

abbrev pub decreases-pass_item : goal.decreases-pass_item
decreases-pass_item l = 10 * (41 - length l.trail.now.path.items) + 5

abbrev pub invariant-pass_each-loop-place : goal.invariant-pass_each-loop-place
invariant-pass_each-loop-place l = record {
  path : l.trail.path.items ≡ l.initial.trail.path.items;
  did : (rows : List Placed) (base : Chars) (above : Visit) (left : ℕ) (es : List Placed) → HeldOnPath l.kept rows base l.initial.trail.path.items above left → l.list ≡ row_places es → AllStand rows es
      → NoFault l.initial.trail.visits (flat_map (λ (e : Placed). visits_in rows base above left (steps_of e)) (take l.place-index es)) l.trail.visits;
}

abbrev pub invariant-pass_times-loop : goal.invariant-pass_times-loop
invariant-pass_times-loop l = record {
  path : l.trail.path.items ≡ l.initial.trail.path.items;
  within : l.counter ≤ l.times;
  did : (rows : List Placed) (base : Chars) (above : Visit) (left : ℕ) (root : Placed) → HeldOnPath l.kept rows base l.initial.trail.path.items above left
      → slice_get rows l.place ≡ Some root → IsElement l.kept rows l.place l.element root → is_item root ≡ true
      → NoFault l.initial.trail.visits (again l.counter (visits_from (properties_in rows) (suc left) above root)) l.trail.visits;
}
