use Rattle.rx_eval.proofs.Common.{◌≡◌, ◌+◌, ◌≤◌, length, drop, flat_map, label_of, refs_seen}
use Rattle.rx_eval.proofs.numbers.count_all.Given as goal

abbrev pub invariant-loop-i : goal.invariant-loop-i
invariant-loop-i l = record {
  left : l.count + length (flat_map label_of (refs_seen (drop l.i l.types))) ≡ length (flat_map label_of (refs_seen l.types));
  bound : l.count ≤ l.i;
}
